use Rattle.words.proofs.Words.{word-name}
use Rattle.words.proofs.code_read.Goals as goal

pub returns-else-is_hex_code : goal.returns-else-is_hex_code
returns-else-is_hex_code c = word-name c.args.word.now _ _ c.requires c.is_hex_code.ensures c.if-is_hex_code.false c.code_of.ensures
