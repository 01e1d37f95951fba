use Rattle.definition_listings.specs.OpcodeNames.{name_table, name_of}
use mathlib.Core.Path.{refl}
use Rattle.names.specs.Tables.{all_letters, starts_right, codes_right, place_of}
use Rattle.names.proofs.Names.new.Goals as goal

-- Each rule of the tables is one computed test over the whole table.

pub invariant_of-result-clause-letters_right : goal.invariant_of-result-clause-letters_right
unfolding all_letters name_of name_table
invariant_of-result-clause-letters_right c = refl

pub invariant_of-result-clause-starts_right : goal.invariant_of-result-clause-starts_right
unfolding starts_right all_letters name_of name_table
invariant_of-result-clause-starts_right c = tt

pub invariant_of-result-clause-codes_right : goal.invariant_of-result-clause-codes_right
unfolding codes_right name_table place_of
invariant_of-result-clause-codes_right c = tt
