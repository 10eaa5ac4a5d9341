-- The bytes that a key has.
use Rattle.std.specs.Prelude.{ℕ, List}
use Rattle.key_hashes.specs.declared.key.Stored.{Stored}
use Rattle.key_hashes.specs.declared.key.Stored.TheVariants.{Short, Lent}

abbrev pub bytes_of : Stored → List ℕ
bytes_of (Short name) = name
bytes_of (Lent name) = name.now
