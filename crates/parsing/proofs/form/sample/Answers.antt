-- `form::sample` meets its contract: a field that is no number, and no `-`, is not of its form. Assumes nothing.
use Rattle.std.proofs.Common.{rules}
use Rattle.parsing.proofs.Forms.{sample_not}
use Rattle.parsing.proofs.form.sample.Goals as goal

pub returns-in_err-lone : goal.returns-in_err-lone
returns-in_err-lone c = rw c.from_residual.ensures (sample_not c.args.line.now (search rules) c.in_err-lone.ensures)
