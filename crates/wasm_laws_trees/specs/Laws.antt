-- What holds of trees of code and of their spelling.
use Rattle.std.specs.Prelude.{◌≡◌, ◌+◌, ◌≤◌, max, List, [], ◌++◌, length, Some}
use Rattle.wasm_lang.specs.declared.types.ValType.{ValType}
use Rattle.wasm_lang.specs.Instructions.{IsExpression}
use Rattle.wasm_lang.specs.Limits.{levels}
use Rattle.wasm_lang_valid.specs.Typing.{Context, listed, IsValid}
use Rattle.wasm_lang_exec.specs.Code.{Trees, ◌⊕◌, tree_of}
use Rattle.wasm_laws_sound.specs.Trees.{IsTyped}
use Rattle.wasm_laws_sound.specs.Laws.{in_body}
use Rattle.wasm_laws_trees.specs.Spelled.{flat, closed, size, tree_levels, reach}

-- ---- one piece of code after another

abbrev pub FlatJoins : Type 0
FlatJoins = (a b : Trees) → flat (a ⊕ b) ≡ flat a ++ flat b

abbrev pub SizesAdd : Type 0
SizesAdd = (a b : Trees) → size (a ⊕ b) ≡ size a + size b

abbrev pub LevelsJoin : Type 0
LevelsJoin = (a b : Trees) → tree_levels (a ⊕ b) ≡ max (tree_levels a) (tree_levels b)

abbrev pub ReachJoins : Type 0
ReachJoins = (a b : Trees) → reach (a ⊕ b) ≡ max (reach a) (reach b)

abbrev pub TypesJoin : Type 0
TypesJoin = (c : Context) (a b : Trees) (before middle after : List ValType) → IsTyped c a before middle → IsTyped c b middle after → IsTyped c (a ⊕ b) before after

-- ---- the spelling

-- the tree of what a tree is spelled as
abbrev pub IsReadAgain : Type 0
IsReadAgain = (code : Trees) → tree_of (closed code) ≡ Some code

abbrev pub IsWellNested : Type 0
IsWellNested = (code : Trees) → IsExpression (closed code)

abbrev pub SizeBoundsLength : Type 0
SizeBoundsLength = (code : Trees) → length (flat code) ≤ size code

abbrev pub LevelsAreKept : Type 0
LevelsAreKept = (code : Trees) → levels (closed code) ≡ tree_levels code

-- a typed tree is a valid body
abbrev pub TypedIsValid : Type 0
TypedIsValid = (base : Context) (code : Trees) → IsTyped (in_body base) code [] (listed base.returns) → IsValid base (closed code)
