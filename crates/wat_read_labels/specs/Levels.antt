-- Blocks that are open, with what their ids hide. The code holds the outermost first.
use Rattle.std.specs.Prelude.{◌≡◌, ℕ, ◌^◌, ◌<◌, true, false, List, [], ◌∷◌, map, reverse, length, Option, Some, None, IfSome, option_map, option_and_then}
use Rattle.std.specs.Borrow.{Bor}
use Rattle.std.specs.Str.{bytes_eq}
use Rattle.indexmap.specs.IndexMap.{IndexMap, get_by}
use Rattle.wat_lang.specs.Names.{Names, is_named}
use Rattle.wat_read_labels.specs.declared.labels.Level.{Level}

abbrev pub level_name : Level → Option (List ℕ)
level_name l = option_map (λ (b : Bor (List ℕ)). b.now) l.name

abbrev pub names_of : List Level → Names
names_of ls = map level_name (reverse ls)

-- the level of the innermost block with the id, from the outermost on
abbrev pub level_of : List ℕ → Names → Option ℕ
level_of id [] = None
level_of id (n ∷ ns) = elim (is_named id n) [ true ↦ Some (length ns) | false ↦ level_of id ns ]

-- each block knows what its id hides; the innermost block stands first
abbrev pub AreHidden : List Level → Type 0
AreHidden [] = Unit {0}
AreHidden (l ∷ ls) = IfSome (level_name l) (λ n. l.hidden ≡ level_of n (map level_name ls)) × AreHidden ls

-- what a map has under an id
abbrev pub found : {X S : Type 0} → IndexMap (List ℕ) X S → List ℕ → Option X
found known id = get_by (bytes_eq id) known

abbrev pub level_known : {S : Type 0} → IndexMap (List ℕ) (Option ℕ) S → List ℕ → Option ℕ
level_known known id = option_and_then (λ (level : Option ℕ). level) (found known id)

pub record Knows {S : Type 0} (levels : List Level) (known : IndexMap (List ℕ) (Option ℕ) S) : Type 0 where
  pub levels_known : (id : List ℕ) → level_known known id ≡ level_of id (names_of levels)
  pub are_hidden : AreHidden (reverse levels)
  pub are_few : length levels < 2 ^ 32
