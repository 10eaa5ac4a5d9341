-- What a module declares, as one list: the first entry of a name is what it means.
use Rattle.std.proofs.Common.{◌≡◌, ℕ, Bool, true, false, List, [], ◌∷◌, ◌++◌, map, ◌⊎◌, inl, inr, refl, sym, ap, ◌∙◌, subst, arith}
use Rattle.std.specs.Prelude.{bytes_eq, if◌then◌else◌}
use Rattle.std.proofs.lemmas.Slice.Eq.{bytes_eq-Decides}
use Rattle.asm_lang.specs.Modules.{Variable, Function, Table, Module}
use Rattle.asm_lang_valid.specs.Scope.{Meaning, nothing, a_function, a_table, init_meaning, among_globals, among_functions, among_tables, is_in, module_meaning, a_parameter}
use Rattle.wasm2js_translation.specs.Names.{Name, Rank, IsBefore, rank, spelled, RisesFrom, Rises}
use Rattle.wasm2js_translation.proofs.Spelling.{spellings_differ}

pub record Entry : Type 0 where
  pub name : List ℕ
  pub meaning : Meaning

abbrev pub entry : List ℕ → Meaning → Entry
entry n o = record { name = n; meaning = o }

abbrev pub meaning_in : List Entry → List ℕ → Meaning
meaning_in [] s = nothing
meaning_in (e ∷ es) s = if bytes_eq e.name s then e.meaning else meaning_in es s

-- ---- an item of a list

abbrev pub In : {A : Type 0} → A → List A → Type 0
In x [] = ⊥
In x (y ∷ ys) = (y ≡ x) ⊎ In x ys

pub in_left : {A : Type 0} → (x : A) (xs ys : List A) → In x xs → In x (xs ++ ys)
in_left x [] ys h = absurd h
in_left x (y ∷ xs) ys (inl e) = inl e
in_left x (y ∷ xs) ys (inr h) = inr (in_left x xs ys h)

pub in_right : {A : Type 0} → (x : A) (xs ys : List A) → In x ys → In x (xs ++ ys)
in_right x [] ys h = h
in_right x (y ∷ xs) ys h = inr (in_right x xs ys h)

pub in_map : {A B : Type 0} → (f : A → B) (x : A) (xs : List A) → In x xs → In (f x) (map f xs)
in_map f x [] h = absurd h
in_map f x (y ∷ xs) (inl e) = inl (ap f e)
in_map f x (y ∷ xs) (inr h) = inr (in_map f x xs h)

-- ---- what a module declares

abbrev pub variable_entry : Module → Variable → Entry
variable_entry m v = entry v.name (init_meaning m v.init)

abbrev pub function_entry : Function → Entry
function_entry f = entry f.name (a_function f)

abbrev pub table_entry : Table → Entry
table_entry t = entry t.name (a_table t)

abbrev pub entries : Module → List Entry
entries m = map (variable_entry m) m.globals ++ (map function_entry m.functions ++ map table_entry m.tables)

tables_in : (ts : List Table) (s : List ℕ) → among_tables ts s ≡ meaning_in (map table_entry ts) s
tables_in [] s = refl
tables_in (t ∷ ts) s = ap (λ o. if bytes_eq t.name s then a_table t else o) (tables_in ts s)

functions_in : (fs : List Function) (s : List ℕ) (o : Meaning) (es : List Entry) → o ≡ meaning_in es s → among_functions fs s o ≡ meaning_in (map function_entry fs ++ es) s
functions_in [] s o es h = h
functions_in (f ∷ fs) s o es h = ap (λ o. if bytes_eq f.name s then a_function f else o) (functions_in fs s o es h)

globals_in : (m : Module) (vs : List Variable) (s : List ℕ) (o : Meaning) (es : List Entry) → o ≡ meaning_in es s → among_globals m vs s o ≡ meaning_in (map (variable_entry m) vs ++ es) s
globals_in m [] s o es h = h
globals_in m (v ∷ vs) s o es h = ap (λ o. if bytes_eq v.name s then init_meaning m v.init else o) (globals_in m vs s o es h)

entries_mean : (m : Module) (s : List ℕ) → is_in s m.params ≡ false → module_meaning m s ≡ meaning_in (entries m) s
entries_mean m s h =
    ap (λ b. if b then a_parameter else among_globals m m.globals s (among_functions m.functions s (among_tables m.tables s))) h
    ∙ globals_in m m.globals s (among_functions m.functions s (among_tables m.tables s)) (map function_entry m.functions ++ map table_entry m.tables)
    (functions_in m.functions s (among_tables m.tables s) (map table_entry m.tables) (tables_in m.tables s))

-- ---- names that rise

pub is_itself : (s : List ℕ) → bytes_eq s s ≡ true
is_itself s = (bytes_eq-Decides s s).1 refl

pub are_apart : (a b : List ℕ) → (a ≡ b → ⊥) → bytes_eq a b ≡ false
are_apart a b h = by (bytes_eq a b) refl
  where
    by : (t : Bool) → bytes_eq a b ≡ t → bytes_eq a b ≡ false
    by true e = absurd (h ((bytes_eq-Decides a b).0 e))
    by false e = e

later_still : (a b c : Rank) → IsBefore a b → IsBefore b c → IsBefore a c
later_still a b c (inl h) (inl k) = inl (omega (arith, h, k))
later_still a b c (inl h) (inr k) = inl (let e = k.0 in omega (arith, h, e))
later_still a b c (inr h) (inl k) = inl (let e = h.0 in omega (arith, e, k))
later_still a b c (inr h) (inr k) = inr (h.0 ∙ k.0, omega (arith, h.1, k.1))

not_before_itself : (a : Rank) → IsBefore a a → ⊥
not_before_itself a (inl h) = omega (arith, h)
not_before_itself a (inr h) = omega (arith, h.1)

-- each stands after the rank from which they rise
all_after : (r : Rank) (ns : List Name) (n : Name) → RisesFrom r ns → In n ns → IsBefore r (rank n)
all_after r [] n h k = absurd k
all_after r (x ∷ xs) n h (inl e) = subst (λ x. IsBefore r (rank x)) e h.0
all_after r (x ∷ xs) n h (inr k) = later_still r (rank x) (rank n) h.0 (all_after (rank x) xs n h.1 k)

pub rest_rises : (r : Rank) (ns : List Name) → RisesFrom r ns → Rises ns
rest_rises r [] h = tt
rest_rises r (n ∷ ns) h = h.1

-- an entry has one of the names
some_name : (es : List Entry) (ns : List Name) (e : Entry) → map (λ e. e.name) es ≡ map spelled ns → In e es → (n : Name) × In n ns × (spelled n ≡ e.name)
some_name [] ns e h k = absurd k
some_name (x ∷ es) [] e h k = cc h
some_name (x ∷ es) (n ∷ ns) e h (inl k) = let s : x.name ≡ spelled n = cc h in (n, inl refl, sym s ∙ ap (λ e. e.name) k)
some_name (x ∷ es) (n ∷ ns) e h (inr k) = let it = some_name es ns e (cc h) k in (it.0, inr it.1, it.2)

-- where names rise, each entry is the first of its name
pub entry_is_found : (es : List Entry) (ns : List Name) (e : Entry) → map (λ e. e.name) es ≡ map spelled ns → Rises ns → In e es → meaning_in es e.name ≡ e.meaning
entry_is_found [] ns e h r k = absurd k
entry_is_found (x ∷ es) [] e h r k = cc h
entry_is_found (x ∷ es) (n ∷ ns) e h r (inl k) =
    let same = (bytes_eq-Decides x.name e.name).1 (ap (λ e. e.name) k) in
    ap (λ b. if b then x.meaning else meaning_in es e.name) same ∙ ap (λ e. e.meaning) k
entry_is_found (x ∷ es) (n ∷ ns) e h r (inr k) =
    let rest : map (λ e. e.name) es ≡ map spelled ns = cc h in
    let first : x.name ≡ spelled n = cc h in
    let it = some_name es ns e rest k in
    let before = all_after (rank n) ns it.0 r it.1 in
    let other = are_apart x.name e.name (λ s. not_before_itself (rank n) (subst (λ y. IsBefore (rank n) (rank y)) (spellings_differ it.0 n (it.2 ∙ sym s ∙ first)) before)) in
    ap (λ b. if b then x.meaning else meaning_in es e.name) other ∙ entry_is_found es ns e rest (rest_rises (rank n) ns r) k

pub entry_means : (m : Module) (ns : List Name) (e : Entry) → map (λ e. e.name) (entries m) ≡ map spelled ns → Rises ns → is_in e.name m.params ≡ false → In e (entries m)
    → module_meaning m e.name ≡ e.meaning
entry_means m ns e h r p k = entries_mean m e.name p ∙ entry_is_found (entries m) ns e h r k
