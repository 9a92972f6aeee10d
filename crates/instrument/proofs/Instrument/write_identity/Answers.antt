-- The names, a comma, the serial number and the versions one after the other.
use Rattle.text.proofs.Pages.{wrote_then}
use Rattle.instrument.proofs.Instrument.write_identity.Goals as goal

pub returns : goal.returns
returns c = wrote_then c.write_names.ensures (wrote_then c.put.ensures (wrote_then c.padded.ensures c.append.ensures))
