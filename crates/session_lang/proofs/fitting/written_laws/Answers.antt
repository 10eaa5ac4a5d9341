use Rattle.session_lang.proofs.Written.{what_fits_writes_bytes}
use Rattle.session_lang.proofs.fitting.written_laws.Goals as goal

pub returns : goal.returns
returns c = what_fits_writes_bytes
