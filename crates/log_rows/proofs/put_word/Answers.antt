use mathlib.Core.Path.{sym, ap, ◌∙◌}
use Rattle.std.specs.Prelude.{Option, Ok}
use Rattle.decode.specs.declared.Instruction.{Instruction}
use Rattle.text.proofs.Puts.{puts_as}
use Rattle.decode.proofs.Bytes.{slice-bytes}
use Rattle.listing.proofs.Listed.{told}
use Rattle.log_rows.specs.Rows.{shown_data}
use Rattle.log_rows.proofs.Words.{stands, data-before, word-code, word-data, word_end, word-malformed}
use Rattle.log_rows.proofs.put_word.Goals as goal

pub data-requires-clause-within : goal.data-requires-clause-within
data-requires-clause-within c =
    let s = c.args.bytes.now in
    let i = stands s (slice-bytes s c.type_inv.bytes) c.in-Ok-Some.i (told s 0 c.decode_at.ensures.same c.in-Ok-Some.is c.in-Ok-Some.field-0-is) in
    (i.onward, i.within)

pub data-requires-clause-push : goal.data-requires-clause-push
data-requires-clause-push c =
    let s = c.args.bytes.now in
    data-before s (slice-bytes s c.type_inv.bytes) c.in-Ok-Some.i (told s 0 c.decode_at.ensures.same c.in-Ok-Some.is c.in-Ok-Some.field-0-is) c.if-i-gt78.false

pub returns-in-Ok-Some : goal.returns-in-Ok-Some
returns-in-Ok-Some c =
    let s = c.args.bytes.now in
    puts_as (word-code s (slice-bytes s c.type_inv.bytes) c.in-Ok-Some.i (told s 0 c.decode_at.ensures.same c.in-Ok-Some.is c.in-Ok-Some.field-0-is) c.if-i-gt78.true) c.put_code_word.ensures

pub returns-in-Ok-Some-2 : goal.returns-in-Ok-Some-2
returns-in-Ok-Some-2 c =
    let s = c.args.bytes.now in
    puts_as (ap shown_data c.data.ensures ∙ word-data s (slice-bytes s c.type_inv.bytes) c.in-Ok-Some.i (told s 0 c.decode_at.ensures.same c.in-Ok-Some.is c.in-Ok-Some.field-0-is) c.if-i-gt78.false) c.put_shown_data.ensures

pub returns-in-Ok-None : goal.returns-in-Ok-None
returns-in-Ok-None c =
    word_end c.args.bytes.now c.args.text.now (sym c.decode_at.ensures.same ∙ c.in-Ok-None.is ∙ ap (λ (o : Option Instruction). Ok o) c.in-Ok-None.field-0-is)

pub returns-in-Err : goal.returns-in-Err
returns-in-Err c = word-malformed c.args.bytes.now c.args.text.now _ (sym c.decode_at.ensures.same ∙ c.in-Err.is)
