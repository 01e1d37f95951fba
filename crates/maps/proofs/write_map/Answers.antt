use Rattle.std.proofs.Common.{rules, arith}
use Rattle.std.proofs.lemmas.Grind.{common_steps}
use Rattle.maps.proofs.Years.{no-year}
use Rattle.maps.proofs.write_map.Goals as goal

pub returns-in_err-rows-clause-size : goal.returns-in_err-rows-clause-size
returns-in_err-rows-clause-size c = let n = no-year c.args.year c.args.map.now (search rules) in grind (arith, common_steps)

pub returns-in_err-rows-clause-put : goal.returns-in_err-rows-clause-put
returns-in_err-rows-clause-put c = (no-year c.args.year c.args.map.now (search rules)).1
