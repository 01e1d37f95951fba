-- Document 02, L4: listings by example.
use mathlib.Core.List.{[], ◌∷◌}
use mathlib.Core.Path.{◌≡◌, refl}
use Rattle.definition.specs.Basics.{Bytes}
use Rattle.definition.specs.Classes.{class_number}
use Rattle.definition.specs.Decoding.{front, decode}
use Rattle.definition.specs.Lines.{text}
use Rattle.definition_listings.specs.Assembling.{Assembly, gives, strange, words, assembly, word_read, assembled}
use Rattle.definition_listings.specs.Listing.{unwritten, listed}
use Rattle.definition_listings.specs.Shortest.{push_of, shortest}
use Rattle.definition.specs.Refusals.{refused_at, malformed_fragment, strange_word, output_short}
use Rattle.definition_listings.specs.OpcodeNames.{name_of, name_table}

-- the bytes that a listing gives
abbrev of : Bytes → Assembly
of listing = assembly 0 (words listing)

empty : of (text "") ≡ gives []
empty = refl

names : of (text "OpDup Op1Negate Op16 OpBlake3") ≡ gives (0x76 ∷ 0x4f ∷ 0x60 ∷ 0xba ∷ [])
unfolding word_read name_table
names = refl

data-pushes : of (text "<05> <81> Op0 <0a0b>") ≡ gives (0x01 ∷ 0x05 ∷ 0x01 ∷ 0x81 ∷ 0x00 ∷ 0x02 ∷ 0x0a ∷ 0x0b ∷ [])
unfolding word_read name_table push_of
data-pushes = refl

-- unmodelled codes
unmodelled : of (text "0x50 0xff") ≡ gives (0x50 ∷ 0xff ∷ [])
unfolding word_read name_table class_number
unmodelled = refl

-- strange words: a space at the start or the end or two together makes an empty word; no bytes between < and >; `0x` before a
-- modelled code; capitals; names that are not in the form
leading-space : of (text " OpDup") ≡ strange 0
unfolding word_read name_table
leading-space = refl

two-spaces : of (text "OpDup  OpDup") ≡ strange 6
unfolding word_read name_table
two-spaces = refl

trailing-space : of (text "OpDup ") ≡ strange 6
unfolding word_read name_table
trailing-space = refl

no-data : of (text "<>") ≡ strange 0
unfolding word_read name_table
no-data = refl

modelled-code : of (text "OpDup 0x76") ≡ strange 6
unfolding word_read name_table class_number
modelled-code = refl

capitals : of (text "<0A>") ≡ strange 0
unfolding word_read name_table
capitals = refl

push-name : of (text "OpPushData1") ≡ strange 0
unfolding word_read name_table
push-name = refl

-- "26 or 3 before 27"
strange-first : assembled (text "OpDup OpDup x") [] ≡ unwritten (refused_at 12 strange_word) []
unfolding assembled word_read name_table
strange-first = refl

no_room : assembled (text "OpDup OpDup") (7 ∷ []) ≡ unwritten (refused_at 0 output_short) (7 ∷ [])
unfolding assembled word_read name_table
no_room = refl

with_rest : assembled (text "OpDup") (7 ∷ 8 ∷ 9 ∷ []) ≡ record { number = 0; offset = 0; size = 1; out = 0x76 ∷ 8 ∷ 9 ∷ [] }
unfolding assembled word_read name_table
with_rest = refl

-- listing
lists : listed (0x76 ∷ 0x01 ∷ 0x05 ∷ 0x50 ∷ 0x4c ∷ 0x00 ∷ []) (text "                            ")
    ≡ record { number = 0; offset = 0; size = 19; out = text "OpDup <05> 0x50 Op0         " }
unfolding listed decode front name_of name_table class_number
lists = refl

broken : listed (0x76 ∷ 0x05 ∷ 0x01 ∷ []) [] ≡ unwritten (refused_at 1 malformed_fragment) []
unfolding listed decode front
broken = refl

in-shortest : shortest (0x4c ∷ 0x00 ∷ 0x4d ∷ 0x01 ∷ 0x00 ∷ 0xaa ∷ 0x76 ∷ []) ≡ 0x00 ∷ 0x01 ∷ 0xaa ∷ 0x76 ∷ []
unfolding shortest decode front push_of
in-shortest = refl
