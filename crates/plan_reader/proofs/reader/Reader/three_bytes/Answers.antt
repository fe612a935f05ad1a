use Rattle.std.proofs.Common.{◌/◌, arith}
use Rattle.plan_reader.proofs.NumberLaws.{three_are}
use Rattle.plan_reader.proofs.reader.Reader.three_bytes.Goals as goal

pub returns : goal.returns
returns c =
    three_are c.args.self.now.file.now (c.args.self.now.place / 8) c.from-high.result c.from-middle.result c.from-low.result
    (omega arith) (omega arith) (omega arith) (omega arith) (omega arith) (omega arith)
