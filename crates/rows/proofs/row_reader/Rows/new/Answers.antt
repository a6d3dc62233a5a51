use Rattle.rows.proofs.Records.{left-start, rows_of-length}
use Rattle.rows.proofs.row_reader.Rows.new.Goals as goal

pub returns-clause-rows : goal.returns-clause-rows
returns-clause-rows c =
    left-start c.from_reader-reader.result c.args.text.now c.from_reader-reader.ensures.state c.from_reader-reader.ensures.source

pub returns-clause-few : goal.returns-clause-few
returns-clause-few c =
    rw (left-start c.from_reader-reader.result c.args.text.now c.from_reader-reader.ensures.state c.from_reader-reader.ensures.source)
    (rows_of-length c.args.text.now)
