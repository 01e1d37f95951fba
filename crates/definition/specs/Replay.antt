-- Section 5: replays with real bytes, and demand 3.
use Rattle.std.specs.Prelude.{Bool, true, false, List, [], ◌∷◌, ◌⊎◌, ◌↔◌, ◌≡◌, ℕ, zero, suc, ◌+◌, ◌*◌, ◌≤◌, ◌<◌, length, get_or, take, drop}
use Rattle.std.proofs.Math.Option.{some}
use Rattle.definition.specs.Basics.{Bytes}
use Rattle.definition.specs.Decoding.{Instruction, instructions, decode}
use Rattle.definition.specs.Classes.{Class, IF, NOTIF, ELSE, ENDIF, RETURN, ordinary, plain}
use Rattle.definition.specs.Stacks.{Rules, Stacks, Outcome, ItemOps, total, stack_heights, on_done, drop_items, step, plain_step}
use Rattle.definition.specs.Walk.{Item, unknown, exact, Arm, dead, live, heights_of, Marked, unknowns, analysis}

-- The replay

-- What a replay has between two steps: its stacks, and what is left of the choices and of the given byte strings. "Items are byte
-- strings of any length."
pub record Replay : Type 0 where
  pub stacks : Stacks Bytes
  pub choices : List Bool
  pub results : List Bytes

-- "A step does what section 3 says with real bytes, .. a literal is pushed whole, SIZE pushes the real length, an unknown result
-- of a plain class is the next of the given byte strings". (`ReplayOf` sees to it that one is left, and so for the choices.)
abbrev pub replaying : List Bytes → ItemOps Bytes
replaying results = record { from_bytes = λ l. l; to_bytes = some; result = get_or results 0 [] }

-- It carries instructions out, or jumps over them: past the ENDIF, or past the ELSE if there is one (`true`). The number
-- counts the conditionals opened since the jump began.
pub data Going : Type 0 where
  running : Going
  jumping : (to_else : Bool) → ℕ → Going

-- an instruction carried out: the replay goes on, has ended, or faults
pub data Carried : Type 0 where
  goes_on : Going → Replay → Carried
  halts : Carried
  fails : Carried

-- On, running or jumping, with what an operation yields. A refusal is a fault: "It faults on a missing item, no room, an unreadable
-- or negative index, a bad tag, an unmodelled opcode", and in the examined mode on pushing a literal above 520 bytes (request L7),
-- which are all that Stacks can refuse.
abbrev pub carried_out : Outcome Bytes → Going → List Bool → List Bytes → Carried
carried_out o mode choices results =
    on_done o (λ r. fails) (λ s. goes_on mode (record { stacks = s; choices = choices; results = results }))

-- "the next choice enters the first arm or jumps past its ELSE (past ENDIF if none)"
abbrev pub chosen : Bool → Going
chosen true = running
chosen false = jumping true 0

-- "IF and NOTIF pop, then the next choice"
abbrev pub branches : Replay → Carried
branches r = carried_out (drop_items 1 r.stacks) (chosen (get_or r.choices 0 true)) (drop 1 r.choices) r.results

-- One instruction carried out, by its class. "A replay that meets ELSE jumps past the ENDIF; ENDIF itself does nothing. RETURN
-- ends it." A plain class that pushes uses up one byte string.
abbrev pub carry : Rules → Instruction → Class → Replay → Carried
carry R i IF r = branches r
carry R i NOTIF r = branches r
carry R i ELSE r = goes_on (jumping false 0) r
carry R i ENDIF r = goes_on running r
carry R i RETURN r = halts
carry R i (ordinary o) r = carried_out (step (replaying r.results) R i o r.stacks) running r.choices r.results
carry R i (plain pops pushes) r =
    carried_out (plain_step (replaying r.results) R.limit pops pushes r.stacks) running r.choices (drop pushes r.results)

-- the mode after an instruction that is jumped over
abbrev pub past : Class → Bool → ℕ → Going
past IF to_else n = jumping to_else (suc n)
past NOTIF to_else n = jumping to_else (suc n)
past ELSE true zero = running
past ELSE false zero = jumping false zero
past ELSE to_else (suc n) = jumping to_else (suc n)
past ENDIF to_else zero = running
past ENDIF to_else (suc n) = jumping to_else n
past RETURN to_else n = jumping to_else n
past (ordinary o) to_else n = jumping to_else n
past (plain pops pushes) to_else n = jumping to_else n

-- What a replay did: the instructions that it reached, each by its place in the fragment, counted from 0, with the stacks
-- just before it, and how it ended: past the last instruction, at RETURN, or with a fault. "A replay reaches an instruction that
-- it carries out or faults on, not one that it jumps over."
pub data Trace : Type 0 where
  visit : ℕ → Stacks Bytes → Trace → Trace
  off_end : Stacks Bytes → Trace
  returned : Stacks Bytes → Trace
  faulted : Trace

-- on from an instruction carried out
abbrev pub on_carried : Carried → Stacks Bytes → (Going → Replay → Trace) → Trace
on_carried (goes_on m r) s next = next m r
on_carried halts s next = returned s
on_carried fails s next = faulted

-- the replay from the instruction at place k on
unfoldable pub replay_from : Rules → List Instruction → ℕ → Going → Replay → Trace
replay_from R [] k m r = off_end r.stacks
replay_from R (i ∷ is) k running r =
    visit k r.stacks (on_carried (carry R i (R.class_for i.opcode) r) r.stacks (λ m t. replay_from R is (k + 1) m t))
replay_from R (i ∷ is) k (jumping to_else n) r = replay_from R is (k + 1) (past (R.class_for i.opcode) to_else n) r

-- the whole replay
abbrev pub whole_replay : Rules → List Instruction → Replay → Trace
whole_replay R is r = replay_from R is 0 running r

-- What is said of a trace

-- it reaches the instruction at place k, with these stacks just before it
abbrev pub ReachedAt : ℕ → Stacks Bytes → Trace → Type 0
ReachedAt k s (visit j u t) = ((j ≡ k) × (u ≡ s)) ⊎ ReachedAt k s t
ReachedAt k s (off_end u) = ⊥
ReachedAt k s (returned u) = ⊥
ReachedAt k s faulted = ⊥

-- it faults
abbrev pub EndsInFault : Trace → Type 0
EndsInFault (visit j u t) = EndsInFault t
EndsInFault (off_end u) = ⊥
EndsInFault (returned u) = ⊥
EndsInFault faulted = Unit {0}

-- it runs off the end, with these stacks: "when it comes past the last instruction, never at RETURN, at once on the empty
-- fragment"
abbrev pub RunsOffWith : Stacks Bytes → Trace → Type 0
RunsOffWith s (visit j u t) = RunsOffWith s t
RunsOffWith s (off_end u) = u ≡ s
RunsOffWith s (returned u) = ⊥
RunsOffWith s faulted = ⊥

-- n is one of its totals: "Totals are taken at the start and after each step"
abbrev pub HasTotal : ℕ → Trace → Type 0
HasTotal n (visit j u t) = (total u ≡ n) ⊎ HasTotal n t
HasTotal n (off_end u) = total u ≡ n
HasTotal n (returned u) = total u ≡ n
HasTotal n faulted = ⊥

-- none of its totals is over this
abbrev pub TotalsWithin : ℕ → Trace → Type 0
TotalsWithin most t = (n : ℕ) → HasTotal n t → n ≤ most

-- What the marker knows, and what a replay holds

-- "The bytes that the marker knows are those of exact items"
abbrev pub Shows : Item → Bytes → Type 0
Shows unknown b = Unit {0}
Shows (exact l) b = l ≡ b

-- item for item; the heights are equal
abbrev pub ShowsAll : List Item → List Bytes → Type 0
ShowsAll [] [] = Unit {0}
ShowsAll [] (b ∷ m) = ⊥
ShowsAll (x ∷ l) [] = ⊥
ShowsAll (x ∷ l) (b ∷ m) = Shows x b × ShowsAll l m

-- of both stacks
pub record ShowsStacks (s : Stacks Item) (t : Stacks Bytes) : Type 0 where
  pub main : ShowsAll s.main t.main
  pub alt : ShowsAll s.alt t.alt

-- a live arm that shows these stacks
abbrev pub ShowsArm : Arm → Stacks Bytes → Type 0
ShowsArm dead t = ⊥
ShowsArm (live s) t = ShowsStacks s t

-- every byte is below 256
abbrev pub AreBytes : Bytes → Type 0
AreBytes [] = Unit {0}
AreBytes (b ∷ l) = (b < 256) × AreBytes l

-- of each byte string
abbrev pub AreStrings : List Bytes → Type 0
AreStrings [] = Unit {0}
AreStrings (b ∷ l) = AreBytes b × AreStrings l

-- A replay of these instructions from stacks that s shows. "Choices and byte strings are two lists, each at least as long as
-- the fragment has instructions; what is left over goes unused."
pub record ReplayOf (is : List Instruction) (s : Stacks Item) (r : Replay) : Type 0 where
  pub start : ShowsStacks s r.stacks
  pub main : AreStrings r.stacks.main
  pub alt : AreStrings r.stacks.alt
  pub results : AreStrings r.results
  pub enough_choices : length is ≤ length r.choices
  pub enough_results : length is ≤ length r.results

-- what every replay does is as P says
abbrev pub EveryReplay : Rules → List Instruction → Stacks Item → (Trace → Type 0) → Type 0
EveryReplay R is s P = (r : Replay) → ReplayOf is s r → P (whole_replay R is r)

-- some replay does as P says
abbrev pub SomeReplay : Rules → List Instruction → Stacks Item → (Trace → Type 0) → Type 0
SomeReplay R is s P = (r : Replay) × (ReplayOf is s r) × (P (whole_replay R is r))

-- Demand 3

-- the two heights in the row of the instruction at place k, of 0 2 0 1 1 0 those of place 1 are 1 0; fewer than two numbers where
-- the log has no such row
abbrev pub heights_at : ℕ → List ℕ → List ℕ
heights_at k log = take 2 (drop (3 * k + 1) log)

-- the row of place k is live, not 65,535 twice
abbrev pub LiveRow : ℕ → List ℕ → Type 0
LiveRow k log = heights_at k log ≡ heights_of dead → ⊥

-- some replay comes to place k
abbrev pub SomeReplayReaches : Rules → List Instruction → Stacks Item → ℕ → Type 0
SomeReplayReaches R is s k = SomeReplay R is s (λ t. (u : Stacks Bytes) × (ReachedAt k u t))

-- what the marker answered for these instructions from the stacks s is true of every replay
pub record Demand3 (R : Rules) (is : List Instruction) (s : Stacks Item) (m : Marked) : Type 0 where
  -- no replay faults
  pub no_fault : EveryReplay R is s (λ t. EndsInFault t → ⊥)
  -- none ever holds more items than the limit, 244 or the lent one (request L6)
  pub within_limit : EveryReplay R is s (λ t. TotalsWithin R.limit t)
  -- at each instruction reached the heights are the logged ones
  pub heights : EveryReplay R is s (λ t. (k : ℕ) (u : Stacks Bytes) → ReachedAt k u t → heights_at k m.log ≡ stack_heights u)
  -- one that runs off the end has the marker's end stacks: their heights, and the bytes of each exact item
  pub ending : EveryReplay R is s (λ t. (u : Stacks Bytes) → RunsOffWith u t → ShowsArm m.verdict.end u)
  -- a row is live exactly where some replay comes
  pub liveness : (k : ℕ) → k < length is → (LiveRow k m.log ↔ SomeReplayReaches R is s k)
  -- there are no end stacks exactly when no replay runs off the end
  pub no_end : (m.verdict.end ≡ dead) ↔ EveryReplay R is s (λ t. (u : Stacks Bytes) → RunsOffWith u t → ⊥)
  -- the peak is exact: no total of any replay is over it, and one replay comes to it
  pub peak_bounds : EveryReplay R is s (λ t. TotalsWithin m.verdict.peak t)
  pub peak_reached : SomeReplay R is s (λ t. HasTotal m.verdict.peak t)

-- "Demand 3 is one claim about whole replays": of `built_in` and of every fragment, all start heights and every log, where the
-- analysis accepts, what it answers is true of every replay.
abbrev pub TrueOfEveryReplay : Rules → Bytes → ℕ → ℕ → List ℕ → Type 0
TrueOfEveryReplay R fragment main alt log =
    (analysis R fragment main alt log).verdict.answer.number ≡ 0
    → Demand3 R (instructions (decode fragment)) (unknowns main alt) (analysis R fragment main alt log)
