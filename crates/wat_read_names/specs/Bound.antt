-- The ids that fields bind in the spaces of a module.
use Rattle.std.specs.Prelude.{◌≡◌, Bool, true, false, ◌&&◌, not, List, [], map, filter, Option, Some, None}
use Rattle.wasm_tree.specs.Views.{type_of}
use Rattle.wat_lang.specs.declared.parts.Space.{Space}
use Rattle.wat_lang.specs.declared.parts.Space.TheVariants as spaces
use Rattle.wat_lang.specs.Grammar.{Mark, binds, Marked}
use Rattle.wat_lang.specs.Names.{Field, same_space, enters, is_import, id_bound, Names, names_of, types_of, text_of}
use Rattle.key_hashes.specs.declared.seed.Seed.{Seed}
use Rattle.key_hashes.specs.Hashes.{with_key}
use Rattle.wat_read_names.specs.declared.lists.Bound.{Bound}
use Rattle.wat_read_names.specs.declared.naming.Naming.{Naming}
use Rattle.wat_read_names.specs.declared.spaces.Spaces.{Spaces}

abbrev pub is_of : (imported : Bool) → Field → Bool
is_of true f = is_import f.kind
is_of false f = not (is_import f.kind)

-- the ids of what is imported into a space, or of what is defined there
abbrev pub bound_in : Space → (imported : Bool) → List Field → Names
bound_in s imported fs = map (λ f. id_bound s f.parts) (filter (λ f. enters s f && is_of imported f) fs)

-- a seed with the id of a token that binds one
abbrev pub seed_with : Seed → Marked → Seed
seed_with seed m = by m.mark
  where
    by : Mark → Seed
    by (binds s) = with_key seed (text_of m)
    by _ = seed

abbrev pub of_space : Spaces → Space → Option Names
of_space n spaces.Type = Some n.types
of_space n spaces.Func = Some n.functions
of_space n spaces.Table = Some n.tables
of_space n spaces.Memory = Some n.memories
of_space n spaces.Global = Some n.globals
of_space n spaces.Elem = Some n.elements
of_space n spaces.Data = Some n.segments
of_space n spaces.Local = None
of_space n spaces.Label = None

abbrev pub or_none : Option Names → Names
or_none None = []
or_none (Some names) = names

-- the ids of each space of a module
abbrev pub space_names : Spaces → Space → Names
space_names n s = or_none (of_space n s)

-- they are those of the fields
pub record HasNames (n : Spaces) (fs : List Field) : Type 0 where
  pub types : n.types ≡ names_of fs spaces.Type
  pub functions : n.functions ≡ names_of fs spaces.Func
  pub tables : n.tables ≡ names_of fs spaces.Table
  pub memories : n.memories ≡ names_of fs spaces.Memory
  pub globals : n.globals ≡ names_of fs spaces.Global
  pub elements : n.elements ≡ names_of fs spaces.Elem
  pub segments : n.segments ≡ names_of fs spaces.Data

-- the field enters this space, and no other
abbrev pub EntersOnly : Field → Space → Type 0
EntersOnly f s = (t : Space) → enters t f ≡ same_space t s

-- the ids of a space of the module, of what is imported and of what is defined there
pub record IsBound (b : Bound) (s : Space) (fs : List Field) : Type 0 where
  pub imported : b.imported ≡ bound_in s true fs
  pub defined : b.defined ≡ bound_in s false fs

-- the ids that fields put into each space, and their types
pub record HasNamed (n : Naming) (fs : List Field) : Type 0 where
  pub types : IsBound n.types spaces.Type fs
  pub functions : IsBound n.functions spaces.Func fs
  pub tables : IsBound n.tables spaces.Table fs
  pub memories : IsBound n.memories spaces.Memory fs
  pub globals : IsBound n.globals spaces.Global fs
  pub elements : IsBound n.elements spaces.Elem fs
  pub segments : IsBound n.segments spaces.Data fs
  pub signatures : map type_of n.signatures.items ≡ types_of fs
