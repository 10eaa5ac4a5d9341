use Rattle.script_read.proofs.Bytes.Lines.{said_write_bytes}
use Rattle.script_read.proofs.bytes_laws.read_scripts_write_bytes.Goals as goal

pub returns : goal.returns
returns c = said_write_bytes
