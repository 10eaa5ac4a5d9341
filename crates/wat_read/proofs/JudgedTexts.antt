-- The registers of both readings, joined, and the module of fields by the names that the code holds.
use Rattle.std.proofs.Common.{◌≡◌, false, List, ◌++◌, map, Option, refl, sym, ap, ◌∙◌, append_assoc, append-nil}
use Rattle.std.specs.Prelude.{flat_map}
use Rattle.std.specs.List.{slice_get}
use Rattle.wasm_lang.specs.Modules.{FunctionType}
use Rattle.wasm_tree.specs.Views.{type_of}
use Rattle.wat_lang.specs.Grammar.{Marked}
use Rattle.wat_lang.specs.Names.{Field, fields_of, names_of, types_of}
use Rattle.wat_lang.specs.Modules as spec
use Rattle.wat_lang.specs.Rows.{Refusal, number_rows, utf8_rows, taken_in, local_spaces, field_rows, order_rows, count_rows, entry_rows, rows_of, least}
use Rattle.wat_read_names.specs.declared.spaces.Spaces.{Spaces}
use Rattle.wat_read_names.specs.Bound.{space_names, HasNames}
use Rattle.wat_read_refusals.specs.Joined.{join}
use Rattle.wat_read_refusals.specs.Single.{module_spaces}
use Rattle.wat_read_refusals.proofs.Joins.{least_append, join_assoc}
use Rattle.wat_read_rows.proofs.Same.{fields_same}
use Rattle.wat_read_outline.specs.declared.outline.Outlined.{Outlined}
use Rattle.wat_read.specs.declared.making.Making.{Making}
use Rattle.wat_read.specs.Making.{HasClosed}
use Rattle.wat_read_outline.specs.Outlines.{IsOutlineOf}
use Rattle.wat_read.specs.Said.{module_by}
use Rattle.wat_read.proofs.Same.{map_same, imports_same, types_same, globals_same, exports_same, starts_same, elements_same, bodies_same, segments_same, same_module}

abbrev Register : Type 0
Register = Option Refusal

-- ---- rows

abbrev joined : Register → Register → Register → Register → Register → Register → Register → Register
joined a b c d e f g = join a (join b (join c (join d (join e (join f g)))))

pub joined_in_turn : (a b c d e f g : Register) → join (join (join (join (join (join a b) c) d) e) f) g ≡ joined a b c d e f g
joined_in_turn a b c d e f g =
    join_assoc (join (join (join (join a b) c) d) e) f g
    ∙ join_assoc (join (join (join a b) c) d) e (join f g)
    ∙ join_assoc (join (join a b) c) d (join e (join f g))
    ∙ join_assoc (join a b) c (join d (join e (join f g)))
    ∙ join_assoc a b (join c (join d (join e (join f g))))

joined_same : (a a' b b' c c' d d' e e' f f' g g' : Register) → a ≡ a' → b ≡ b' → c ≡ c' → d ≡ d' → e ≡ e' → f ≡ f' → g ≡ g' → joined a b c d e f g ≡ joined a' b' c' d' e' f' g'
joined_same a a' b b' c c' d d' e e' f f' g g' pa pb pc pd pe pf pg =
    ap (λ x. joined x b c d e f g) pa ∙ ap (λ x. joined a' x c d e f g) pb ∙ ap (λ x. joined a' b' x d e f g) pc
    ∙ ap (λ x. joined a' b' c' x e f g) pd ∙ ap (λ x. joined a' b' c' d' x f g) pe ∙ ap (λ x. joined a' b' c' d' e' x g) pf
    ∙ ap (λ x. joined a' b' c' d' e' f' x) pg

joined_rows : (a b c d e f g h : List Refusal) → least (a ++ (b ++ ((c ++ d) ++ (e ++ (f ++ (g ++ h)))))) ≡ joined (least a) (least b) (least c) (least d) (least e) (least (f ++ g)) (least h)
joined_rows a b c d e f g h =
    least_append a (b ++ ((c ++ d) ++ (e ++ (f ++ (g ++ h)))))
    ∙ ap (join (least a)) (least_append b ((c ++ d) ++ (e ++ (f ++ (g ++ h))))
    ∙ ap (join (least b)) (ap least (append_assoc c d (e ++ (f ++ (g ++ h)))) ∙ least_append c (d ++ (e ++ (f ++ (g ++ h))))
    ∙ ap (join (least c)) (least_append d (e ++ (f ++ (g ++ h)))
    ∙ ap (join (least d)) (least_append e (f ++ (g ++ h))
    ∙ ap (join (least e)) (ap least (sym (append_assoc f g h)) ∙ least_append (f ++ g) h)))))

pub rows_joined : (o : Outlined) (m : Making) (ks : List Marked) → IsOutlineOf o ks → HasClosed (space_names o.names.spaces) (map type_of o.names.types.items) m ks
    → least (rows_of ks) ≡ joined m.rows.numbers o.utf8 o.taken m.rows.locals m.rows.fields o.orders o.entries
rows_joined o m ks h g =
    let fs = fields_of ks in
    let n = o.names.spaces in
    let held : List FunctionType = map type_of o.names.types.items in
    let by_types : List FunctionType → List Refusal = λ types. flat_map (field_rows (names_of fs) types) fs in
    joined_rows (number_rows ks) (utf8_rows ks) (flat_map (λ s. taken_in s ks) module_spaces) (flat_map local_spaces fs) (by_types (types_of fs)) (order_rows false false fs) (count_rows fs) (entry_rows ks)
    ∙ sym (joined_same _ _ _ _ _ _ _ _ _ _ _ _ _ _ g.rows.numbers h.utf8 h.taken g.rows.locals
    (g.rows.fields ∙ ap least (append-nil (flat_map (field_rows (space_names n) held) fs) ∙ fields_same n fs h.spaces held fs ∙ ap by_types h.types)) h.orders h.entries)

-- ---- the module

pub by_names : (n : Spaces) (fs : List Field) → HasNames n fs → module_by (space_names n) fs ≡ spec.module_of_fields fs
by_names n fs h =
    same_module _ _ _ _ _ _ _ _ _ _ _ _ _ _ _ _ _ _ _ _ _ _
    refl
    (map_same _ _ _ (imports_same n fs h))
    (map_same _ _ _ (types_same n fs h))
    refl refl
    (map_same _ _ _ (globals_same n fs h))
    (map_same _ _ _ (exports_same n fs h))
    (ap (λ xs. slice_get xs 0) (map_same _ _ _ (starts_same n fs h)))
    (map_same _ _ _ (elements_same n fs h))
    (map_same _ _ _ (bodies_same n fs h (types_of fs)))
    (map_same _ _ _ (segments_same n fs h))
