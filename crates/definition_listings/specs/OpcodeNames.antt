-- Document 02, L4: "the opcode names of document 000", at the codes of section 2.
use Rattle.std.specs.Prelude.{List, [], ◌∷◌, ℕ, ◌+◌, eqb}
use Prim.Native.String.{String}
use Rattle.definition.specs.Basics.{Bytes, pick}
use Rattle.definition.specs.Lines.{text}

-- the codes from the first on have these names, one after another
pub data Names : Type 0 where
  names : (first : ℕ) → List String → Names

-- 124 names, in the order of the codes. A code of 01 to 4e has none: it is written with its data. An unmodelled one has none.
abbrev pub opcode_names : List Names
opcode_names =
    names 0x00 ("Op0" ∷ []) ∷
    names 0x4f ("Op1Negate" ∷ []) ∷
    names 0x51 (
    "Op1" ∷ "Op2" ∷ "Op3" ∷ "Op4" ∷ "Op5" ∷ "Op6" ∷ "Op7" ∷ "Op8" ∷ "Op9" ∷ "Op10" ∷ "Op11" ∷ "Op12" ∷ "Op13" ∷ "Op14" ∷
    "Op15" ∷ "Op16" ∷ "OpNop" ∷ []) ∷
    names 0x63 ("OpIf" ∷ "OpNotIf" ∷ []) ∷
    names 0x67 (
    "OpElse" ∷ "OpEndIf" ∷ "OpVerify" ∷ "OpReturn" ∷ "OpToAltStack" ∷ "OpFromAltStack" ∷ "Op2Drop" ∷ "Op2Dup" ∷ "Op3Dup" ∷
    "Op2Over" ∷ "Op2Rot" ∷ "Op2Swap" ∷ []) ∷
    names 0x74 (
    "OpDepth" ∷ "OpDrop" ∷ "OpDup" ∷ "OpNip" ∷ "OpOver" ∷ "OpPick" ∷ "OpRoll" ∷ "OpRot" ∷ "OpSwap" ∷ "OpTuck" ∷ "OpCat" ∷
    "OpSubstr" ∷ []) ∷
    names 0x82 ("OpSize" ∷ "OpInvert" ∷ "OpAnd" ∷ "OpOr" ∷ "OpXor" ∷ "OpEqual" ∷ "OpEqualVerify" ∷ []) ∷
    names 0x8b ("Op1Add" ∷ "Op1Sub" ∷ []) ∷
    names 0x8f (
    "OpNegate" ∷ "OpAbs" ∷ "OpNot" ∷ "Op0NotEqual" ∷ "OpAdd" ∷ "OpSub" ∷ "OpMul" ∷ "OpDiv" ∷ "OpMod" ∷ []) ∷
    names 0x9a (
    "OpBoolAnd" ∷ "OpBoolOr" ∷ "OpNumEqual" ∷ "OpNumEqualVerify" ∷ "OpNumNotEqual" ∷ "OpLessThan" ∷ "OpGreaterThan" ∷
    "OpLessThanOrEqual" ∷ "OpGreaterThanOrEqual" ∷ "OpMin" ∷ "OpMax" ∷ "OpWithin" ∷ "OpZkPrecompile" ∷ "OpBlake2bWithKey" ∷
    "OpSHA256" ∷ []) ∷
    names 0xaa ("OpBlake2b" ∷ "OpCheckSigECDSA" ∷ "OpCheckSig" ∷ "OpCheckSigVerify" ∷ []) ∷
    names 0xb0 (
    "OpCheckLockTimeVerify" ∷ "OpCheckSequenceVerify" ∷
    -- b2 to b9
    "OpTxVersion" ∷ "OpTxInputCount" ∷ "OpTxOutputCount" ∷ "OpTxLockTime" ∷ "OpTxSubnetId" ∷ "OpTxGas" ∷ "OpTxInputIndex" ∷
    "OpTxPayloadLen" ∷
    -- ba to ce
    "OpBlake3" ∷ "OpBin2Num" ∷ "OpOutpointTxId" ∷ "OpOutpointIndex" ∷ "OpTxInputSeq" ∷ "OpTxInputAmount" ∷ "OpTxInputSpk" ∷
    "OpTxInputDaaScore" ∷ "OpTxInputIsCoinbase" ∷ "OpTxOutputAmount" ∷ "OpTxOutputSpk" ∷ "OpTxInputSpkLen" ∷
    "OpTxOutputSpkLen" ∷ "OpTxInputScriptSigLen" ∷ "OpAuthOutputCount" ∷ "OpInputCovenantId" ∷ "OpCovInputCount" ∷
    "OpCovOutputCount" ∷ "OpChainblockSeqCommit" ∷ "OpOutputCovenantId" ∷ "OpOutputAuthorizingInput" ∷
    -- cf to d4
    "OpBlake3WithKey" ∷ "OpTxPayloadSubstr" ∷ "OpAuthOutputIdx" ∷ "OpNum2Bin" ∷ "OpCovInputIdx" ∷ "OpCovOutputIdx" ∷
    -- d5 to d9
    "OpTxInputScriptSigSubstr" ∷ "OpTxInputSpkSubstr" ∷ "OpTxOutputSpkSubstr" ∷ "OpCheckSigFromStack" ∷
    "OpCheckSigFromStackECDSA" ∷ []) ∷ []

-- a code and its name
pub record Named : Type 0 where
  pub code : ℕ
  pub name : Bytes

-- the codes and names of one row of the table, and then those of others
abbrev pub row_then : ℕ → List String → List Named → List Named
row_then code [] rest = rest
row_then code (s ∷ l) rest = record { code = code; name = text s } ∷ row_then (code + 1) l rest

abbrev pub rows : List Names → List Named
rows [] = []
rows (names first l ∷ ns) = row_then first l (rows ns)

-- the table, one name to a code
unfoldable pub name_table : List Named
name_table = rows opcode_names

-- the name of a code; no letters if it has none
abbrev pub name_in : List Named → ℕ → Bytes
name_in [] code = []
name_in (n ∷ l) code = pick (eqb n.code code) n.name (name_in l code)

unfoldable pub name_of : ℕ → Bytes
name_of code = name_in name_table code
