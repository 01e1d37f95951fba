use mathlib.Core.Path.{ap, ◌∙◌}
use Rattle.definition.specs.Refusals.{Answer}
use Rattle.definition_rules.specs.Maps.{rules_by}
use Rattle.opcodes.specs.Classes.{rows_of as class_rows}
use Rattle.log_lines.specs.Log.{refusal_line}
use mathlib.Core.List.{[]}
use Rattle.log_text.proofs.Texts.{refused-told, refused-header, refused-dispatch, refused-fragment}
use Rattle.log_text.proofs.put_refused.Goals as goal

pub returns-in-LongPaper-clause-same : goal.returns-in-LongPaper-clause-same
returns-in-LongPaper-clause-same c = λ options.
    refused-told (rules_by (class_rows c.args.paper.classes) options) c.args.paper.bytes.now c.args.paper.log.now c.args.entry c.args.from c.args.rejected c.in-LongPaper.is
    (c.deref.ensures.0 ∙ c.refusal_line.ensures ∙ ap (λ (a : Answer). refusal_line [] a.number a.first a.second []) c.from-answer.ensures) c.put.ensures

pub returns-in-BadHeader-clause-same : goal.returns-in-BadHeader-clause-same
returns-in-BadHeader-clause-same c = λ options.
    refused-header (rules_by (class_rows c.args.paper.classes) options) c.args.paper.bytes.now c.args.paper.log.now c.args.entry c.args.from c.args.rejected c.in-BadHeader.is
    (c.deref-in-BadHeader.ensures.0 ∙ c.header_line.ensures) c.put-in-BadHeader.ensures

pub returns-in-DispatchTooLarge-clause-same : goal.returns-in-DispatchTooLarge-clause-same
returns-in-DispatchTooLarge-clause-same c = λ options.
    refused-dispatch (rules_by (class_rows c.args.paper.classes) options) c.args.paper.bytes.now c.args.paper.log.now c.args.entry c.args.from c.args.rejected c.in-DispatchTooLarge.is c.from-answer.ensures
    c.dispatch_line.ensures c.deref-in-DispatchTooLarge.ensures.0 c.put-in-DispatchTooLarge.ensures

pub returns-in_default : goal.returns-in_default
returns-in_default c = record {
  same = λ options.
      refused-fragment (rules_by (class_rows c.args.paper.classes) options) c.args.paper.bytes.now c.args.paper.log.now c.args.entry c.args.from c.args.rejected
      c.in_default.not-LongPaper c.in_default.not-BadMap c.in_default.not-BadLimit c.in_default.not-BadHeader c.in_default.not-DispatchTooLarge (c.put_block.ensures.same options);
  near = c.put_block.ensures.near;
}
