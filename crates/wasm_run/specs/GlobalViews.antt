-- What a list of imported globals stands for.
use Rattle.sem_words.specs.Lists.{text_bytes}
use Rattle.wasm_lang_exec.specs.Fits.{GlobalImport}
use Rattle.wasm_run.specs.declared.imported.ImportedGlobal.{ImportedGlobal}

abbrev pub imported_of : ImportedGlobal → GlobalImport
imported_of g = record { name = text_bytes g.name; type = g.kind }
