use Rattle.slots.specs.View.{slots}
use Rattle.slots.proofs.Joins.{joined-both, joined-codes}
use Rattle.slots.proofs.join_codes.Goals as goal

pub returns-then-not-common_codes : goal.returns-then-not-common_codes
returns-then-not-common_codes c =
    joined-both (slots c.args.bytes.now c.args.codes.now) (slots c.args.other_bytes.now c.args.other.now) c.requires.sound.0 c.requires.sound.1 c.args.from c.args.to _ c.common_codes.ensures.common _ c.settle_codes.ensures

pub returns-else-not-common_codes : goal.returns-else-not-common_codes
returns-else-not-common_codes c =
    joined-codes (slots c.args.bytes.now c.args.codes.now) (slots c.args.other_bytes.now c.args.other.now) c.requires.sound.0 c.requires.sound.1 c.args.from c.args.to _ c.common_codes.ensures.common (c.common_codes.ensures.suffice c.if-not-common_codes.false)
