use Rattle.words.proofs.Words.{data-odd, data-short, data-unended, data-crooked, data-long}
use Rattle.words.proofs.Sizes.{sized-data}
use mathlib.Core.Bool.{not}
use mathlib.Core.Path.{ap}
use Rattle.words.proofs.data_size.Goals as goal
use Rattle.words.proofs.data_size.Goals.{then-n-ne0-via-then-n-ne0, then-n-ne0-via-else-n-ne0+then-n-lt4, then-n-ne0-via-else-n-ne0+else-n-lt4+then-word-n-ne62, then-n-ne0-via-else-n-ne0+else-n-lt4+else-word-n-ne62+then-not-all_digits}

pub returns-then-n-ne0 : goal.returns-then-n-ne0
returns-then-n-ne0 c = elim c.then-n-ne0.branch [
  | then-n-ne0-via-then-n-ne0 w ↦ data-odd c.args.word.now c.requires w.if-n-ne0.true
  | then-n-ne0-via-else-n-ne0+then-n-lt4 w ↦ data-short c.args.word.now c.requires w.if-n-lt4.true
  | then-n-ne0-via-else-n-ne0+else-n-lt4+then-word-n-ne62 w ↦ data-unended c.args.word.now c.requires w.if-word-n-ne62.true
  | then-n-ne0-via-else-n-ne0+else-n-lt4+else-word-n-ne62+then-not-all_digits w ↦ data-crooked c.args.word.now c.requires _ w.all_digits.ensures (ap not w.if-not-all_digits.true)
]

pub returns-then-bytes-gt4294967295 : goal.returns-then-bytes-gt4294967295
returns-then-bytes-gt4294967295 c = data-long c.args.word.now c.requires c.if-bytes-gt4294967295.true

pub returns : goal.returns
returns c = sized-data c.args.word.now _ c.requires c.if-n-ne0.false c.if-n-lt4.false c.if-word-n-ne62.false _ c.all_digits.ensures (ap not c.if-not-all_digits.false) c.if-bytes-gt4294967295.false c.push_size.ensures
