use Rattle.sheet.proofs.samples_hold.Goals as goal
use Rattle.sheet.proofs.Samples.{sheet}

pub returns : goal.returns
returns c = sheet
