-- What fields say of whose parts the heads alone are there.
use Rattle.std.proofs.Common.{◌≡◌, Bool, true, false, ◌&&◌, ◌||◌, not, cond, List, [], ◌∷◌, ◌++◌, map, filter, Option, Some, None, refl, sym, ap, ◌∙◌}
use Rattle.wat_lang.specs.declared.parts.Space.{Space}
use Rattle.wat_lang.specs.declared.parts.Space.TheVariants as spaces
use Rattle.wat_lang.specs.declared.fault.Row.TheVariants as rows
use Rattle.wat_lang.specs.Grammar.{binds}
use Rattle.wat_lang.specs.Names.{Field, Entry, entry_of, enters, same_space, is_import, id_bound, Names, names_of, signature_of, types_of}
use Rattle.wat_lang.specs.Rows.{Refusal, where_holds, starts, defines, order_rows, entries_in, count_rows}
use Rattle.wat_laws_kept.specs.Heads.{is_head, headed}
use Rattle.wat_laws_kept.proofs.Heads.{id_of_heads, signature_of_heads, entry_of_heads, enters_of_heads}

-- ---- lists

chosen_of_map : {X Y : Type 0} (h : X → Y) (p : Y → Bool) (q : X → Bool) (xs : List X) → ((x : X) → p (h x) ≡ q x) → filter p (map h xs) ≡ map h (filter q xs)
chosen_of_map h p q [] e = refl
chosen_of_map h p q (x ∷ xs) e =
    ap (λ (b : Bool). cond b (h x ∷ filter p (map h xs)) (filter p (map h xs))) (e x)
    ∙ ap (λ ys. cond (q x) (h x ∷ ys) ys) (chosen_of_map h p q xs e) ∙ by (q x)
  where
    by : (b : Bool) → cond b (h x ∷ map h (filter q xs)) (map h (filter q xs)) ≡ map h (cond b (x ∷ filter q xs) (filter q xs))
    by true = refl
    by false = refl

map_of_map : {X Y Z : Type 0} (h : X → Y) (f : Y → Z) (g : X → Z) (xs : List X) → ((x : X) → f (h x) ≡ g x) → map f (map h xs) ≡ map g xs
map_of_map h f g [] e = refl
map_of_map h f g (x ∷ xs) e = ap (λ z. z ∷ map f (map h xs)) (e x) ∙ ap (λ zs. g x ∷ zs) (map_of_map h f g xs e)

-- ---- names and types

ids_of_headed : (s : Space) (p : Field → Bool) → is_head (binds s) ≡ true → ((f : Field) → p (headed f) ≡ p f) → (fs : List Field)
    → map (λ (g : Field). id_bound s g.parts) (filter p (map headed fs)) ≡ map (λ (g : Field). id_bound s g.parts) (filter p fs)
ids_of_headed s p b e fs =
    ap (map (λ (g : Field). id_bound s g.parts)) (chosen_of_map headed p p fs e)
    ∙ map_of_map headed (λ (g : Field). id_bound s g.parts) (λ (g : Field). id_bound s g.parts) (filter p fs) (λ f. id_of_heads s b f.parts)

pub names_of_headed : (s : Space) → is_head (binds s) ≡ true → (fs : List Field) → names_of (map headed fs) s ≡ names_of fs s
names_of_headed s b fs =
    let imported : Field → Bool = λ f. enters s f && is_import f.kind in
    let own : Field → Bool = λ f. enters s f && not (is_import f.kind) in
    ap (λ (ns : Names). ns ++ map (λ (g : Field). id_bound s g.parts) (filter own (map headed fs)))
    (ids_of_headed s imported b (λ f. ap (λ (x : Bool). x && is_import f.kind) (enters_of_heads s f.kind f.at f.parts)) fs)
    ∙ ap (λ (ns : Names). map (λ (g : Field). id_bound s g.parts) (filter imported fs) ++ ns)
    (ids_of_headed s own b (λ f. ap (λ (x : Bool). x && not (is_import f.kind)) (enters_of_heads s f.kind f.at f.parts)) fs)

pub types_of_headed : (fs : List Field) → types_of (map headed fs) ≡ types_of fs
types_of_headed fs =
    let typed : Field → Bool = enters spaces.Type in
    ap (map (λ (f : Field). signature_of f.parts)) (chosen_of_map headed typed typed fs (λ f. enters_of_heads spaces.Type f.kind f.at f.parts))
    ∙ map_of_map headed (λ (f : Field). signature_of f.parts) (λ (f : Field). signature_of f.parts) (filter typed fs) (λ f. signature_of_heads f.parts)

-- ---- rows

pub order_of_headed : (defined started : Bool) (fs : List Field) → order_rows defined started (map headed fs) ≡ order_rows defined started fs
order_of_headed d s [] = refl
order_of_headed d s (f ∷ fs) =
    ap (λ (rs : List Refusal). where_holds ((is_import f.kind && d) || (starts f.kind && s)) rows.Order f.at ++ rs) (order_of_headed (d || defines f.kind) (s || starts f.kind) fs)

abbrev entry_or : Space → List Entry → Option Entry → List Entry
entry_or s others None = others
entry_or s others (Some e) = cond (same_space s e.space) (e ∷ others) others

entries_by : (s : Space) (f : Field) (fs : List Field) → entries_in s (f ∷ fs) ≡ entry_or s (entries_in s fs) (entry_of f)
entries_by s f fs = by (entry_of f)
  where
    by : (o : Option Entry) → elim o [ Some e ↦ cond (same_space s e.space) (e ∷ []) [] | None ↦ [] ] ++ entries_in s fs ≡ entry_or s (entries_in s fs) o
    by None = refl
    by (Some e) = at (same_space s e.space)
      where
        at : (b : Bool) → cond b (e ∷ []) [] ++ entries_in s fs ≡ cond b (e ∷ entries_in s fs) (entries_in s fs)
        at true = refl
        at false = refl

entries_of_headed : (s : Space) (fs : List Field) → entries_in s (map headed fs) ≡ entries_in s fs
entries_of_headed s [] = refl
entries_of_headed s (f ∷ fs) =
    entries_by s (headed f) (map headed fs)
    ∙ ap (λ (o : Option Entry). entry_or s (entries_in s (map headed fs)) o) (entry_of_heads f.kind f.at f.parts)
    ∙ ap (λ (es : List Entry). entry_or s es (entry_of f)) (entries_of_headed s fs)
    ∙ sym (entries_by s f fs)

pub counts_of_headed : (fs : List Field) → count_rows (map headed fs) ≡ count_rows fs
counts_of_headed fs = rw (entries_of_headed spaces.Type fs, entries_of_headed spaces.Func fs, entries_of_headed spaces.Global fs) refl
