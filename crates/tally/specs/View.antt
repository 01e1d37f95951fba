-- What the structs of this crate stand for in the definitions.
use Rattle.std.specs.Prelude.{◌≡◌, ℕ, Result, Ok, Err}
use Rattle.definition.specs.Refusals.{accepted, refused_at}
use Rattle.definition.specs.Walk.{Verdict}
use Rattle.definition.specs.Walk as W
use Rattle.refusals.specs.View.{refusal_of}
use Rattle.refusals.specs.declared.Refusal.{Refusal}
use Rattle.tally.specs.declared.Tally.{Tally}

-- the tally that the struct stands for
abbrev pub tally_of : Tally → W.Tally
tally_of t = record { fragments = t.fragments; accepts = t.accepts; rows = t.rows; peak = t.peak }

-- the struct for a tally
abbrev pub packed : W.Tally → Tally
packed t = record { fragments = t.fragments; accepts = t.accepts; rows = t.rows; peak = t.peak }

-- accepted or the refusal, with this tally afterwards
abbrev pub answer_of : W.Tally → Result (Unit {0}) Refusal → W.TallyAnswer
answer_of t (Ok u) = record { answer = accepted; tally = t }
answer_of t (Err r) = record { answer = refused_at 0 (refusal_of r); tally = t }

-- accepted, with the tally handed out; or the refusal, with the tally as it was
abbrev pub gained_of : W.Tally → Result Tally Refusal → W.TallyAnswer
gained_of old (Ok new) = record { answer = accepted; tally = tally_of new }
gained_of old (Err r) = record { answer = refused_at 0 (refusal_of r); tally = old }

-- what a tally takes of a verdict
pub record Gives (v : Verdict) (number rows peak : ℕ) : Type 0 where
  pub is_number : v.answer.number ≡ number
  pub is_rows : v.rows ≡ rows
  pub is_peak : v.peak ≡ peak
