-- What the number of a function calls in the linked module is the moved function that its address calls in the pair.
use Rattle.std.proofs.Common.{◌≡◌, inl, inr, ℕ, zero, suc, ◌+◌, Bool, true, false, not, List, [], ◌∷◌, ◌++◌, length, map, take, Option, Some, None, refl, sym, ap, ◌∙◌, subst, arith, length-append}
use Rattle.std.specs.Prelude.{slice_get, if◌then◌else◌, ◌||◌, option_map}
use Rattle.std.proofs.lemmas.List.{length-map, append-nil}
use Rattle.std.proofs.lemmas.Option.{slice_get_within, slice_get-map}
use Rattle.session_lang.specs.Names.{import_name}
use Rattle.wasm_lang.specs.declared.types.ValType.{ValType}
use Rattle.wasm_lang.specs.declared.types.ImportKind.{ImportKind}
use Rattle.wasm_lang.specs.declared.types.ImportKind.TheVariants as imports
use Rattle.wasm_lang.specs.Modules.{FunctionType, Imported, FunctionBody, WasmModule}
use Rattle.wasm_lang_valid.specs.ModuleRules.{is_type, function_of, imported_functions}
use Rattle.wasm_lang_valid.specs.Validity.{own_type}
use Rattle.wasm_lang_exec.specs.Code.{Trees, tree_of}
use Rattle.wasm_lang_exec.specs.Reductions.{Callee, an_import, a_function, if_function, imported_callee, imported_callees, own_callee, own_callees, callees, found, callee_at}
use Rattle.wasm_laws_sound.specs.Laws.{IsWhole}
use Rattle.wasm_link_lang.specs.Pairs.{Pair, past_first, at_addresses, all_callees, bound_to, function_imports, first_bindings, second_bindings, callee_of, called}
use Rattle.wasm_link_lang.specs.Reductions.{entries}
use Rattle.wasm_link_lang.specs.Refusal.{is_there, least_maximum, locals_of}
use Rattle.wasm_link_lang.specs.Session.{pages}
use Rattle.wasm_link_code.specs.Numbers.{number}
use Rattle.wasm_link_code.specs.Code.{moved_code, scratch}
use Rattle.wasm_link_code.specs.Linked.{staying, moved_import, memory_import, second_start, start_types, start_bodies, moved_bodies, linked_functions, linked}
use Rattle.wasm_link_code.specs.Trees.{moved_tree}
use Rattle.wasm_link_laws_modules.specs.Kept.{kept, address_types, type_at}
use Rattle.wasm_link_laws_modules.specs.Callees.{IsMoved}
use Rattle.wasm_link_laws_modules.proofs.Accepted.{MeetsNoRow}
use Rattle.wasm_link_laws_modules.proofs.Places.{Splits, splits, get_there, get_past, get_first}
use Rattle.wasm_link_laws_modules.proofs.Chains.{first_many, second_many, stands}
use Rattle.wasm_link_laws_modules.proofs.Types.{type_stays}
use Rattle.wasm_link_laws_modules.proofs.Linked.{mapped_there}
use Rattle.wasm_link_laws_modules.proofs.Numbered.{found_there, moves}
use Rattle.wasm_link_laws_modules.proofs.Facts.{Every, every_less, lt_true, imports_kept, functions_kept}
use Rattle.wasm_link_laws_modules.proofs.Contexts.{own_is}
use Rattle.wasm_link_laws_modules.proofs.BodiesValid.{many_moved}
use Rattle.wasm_link_laws_modules.proofs.Sections.{TypeThere, import_type, linked_imports_are, linked_functions_are}
use Rattle.wasm_link_laws_modules.proofs.Valid.{linked_bodies_are, many_addressed}
use Rattle.wasm_link_laws_modules.proofs.CalledAs.{moved_by_none, first_types, second_types}
use Rattle.wasm_link_laws_modules.proofs.MovedTrees.{tree_moved}

-- ---- lists of callees

imported_join : (v : WasmModule) (is js : List Imported) → imported_callees v (is ++ js) ≡ imported_callees v is ++ imported_callees v js
imported_join v [] js = refl
imported_join v (i ∷ is) js = by i.kind (imported_join v is js)
  where
    by : (k : ImportKind) → imported_callees v (is ++ js) ≡ imported_callees v is ++ imported_callees v js
        → if_function k (λ t. imported_callee v i t ∷ imported_callees v (is ++ js)) (imported_callees v (is ++ js))
        ≡ if_function k (λ t. imported_callee v i t ∷ imported_callees v is) (imported_callees v is) ++ imported_callees v js
    by (imports.Func t) e = ap (λ cs. imported_callee v i t ∷ cs) e
    by (imports.Table l) e = e
    by (imports.Memory l) e = e
    by (imports.Global g) e = e

own_join : (v : WasmModule) (ts us : List ℕ) (bs cs : List FunctionBody) → length ts ≡ length bs → own_callees v (ts ++ us) (bs ++ cs) ≡ own_callees v ts bs ++ own_callees v us cs
own_join v [] us [] cs e = refl
own_join v [] us (b ∷ bs) cs e = absurd (omega (arith, e))
own_join v (t ∷ ts) us [] cs e = absurd (omega (arith, e))
own_join v (t ∷ ts) us (b ∷ bs) cs e = ap (λ xs. own_callee (slice_get v.types t) b (tree_of b.code) ∷ xs) (own_join v ts us bs cs (omega (arith, e)))

many_own : (v : WasmModule) (ts : List ℕ) (bs : List FunctionBody) → length ts ≡ length bs → length (own_callees v ts bs) ≡ length ts
many_own v [] [] e = refl
many_own v [] (b ∷ bs) e = absurd (omega (arith, e))
many_own v (t ∷ ts) [] e = absurd (omega (arith, e))
many_own v (t ∷ ts) (b ∷ bs) e = ap suc (many_own v ts bs (omega (arith, e)))

many_imported : (v : WasmModule) (is : List Imported) → length (imported_callees v is) ≡ length (imported_functions is)
many_imported v [] = refl
many_imported v (i ∷ is) = by i.kind (many_imported v is)
  where
    by : (k : ImportKind) → length (imported_callees v is) ≡ length (imported_functions is)
        → length (if_function k (λ t. imported_callee v i t ∷ imported_callees v is) (imported_callees v is)) ≡ length (function_of k ++ imported_functions is)
    by (imports.Func t) e = ap suc e
    by (imports.Table l) e = e
    by (imports.Memory l) e = e
    by (imports.Global g) e = e

at_own : (v : WasmModule) (ts : List ℕ) (bs : List FunctionBody) (i n : ℕ) (b : FunctionBody) → slice_get ts i ≡ Some n → slice_get bs i ≡ Some b
    → slice_get (own_callees v ts bs) i ≡ Some (own_callee (slice_get v.types n) b (tree_of b.code))
at_own v [] bs i n b h g = absurd (cc h)
at_own v (t ∷ ts) [] i n b h g = absurd (cc g)
at_own v (t ∷ ts) (c ∷ bs) zero n b h g =
    let e : t ≡ n = cc h in
    let f : c ≡ b = cc g in
    ap (λ t. Some (own_callee (slice_get v.types t) c (tree_of c.code))) e ∙ ap (λ (c : FunctionBody). Some (own_callee (slice_get v.types n) c (tree_of c.code))) f
at_own v (t ∷ ts) (c ∷ bs) (suc i) n b h g = at_own v ts bs i n b h g

own_at : (v : WasmModule) (ts : List ℕ) (bs : List FunctionBody) (i : ℕ) (y : Option Callee) → slice_get (own_callees v ts bs) i ≡ Some y
    → (n : ℕ) × (b : FunctionBody) × (slice_get ts i ≡ Some n) × (slice_get bs i ≡ Some b) × (own_callee (slice_get v.types n) b (tree_of b.code) ≡ y)
own_at v [] [] i y h = absurd (cc h)
own_at v [] (b ∷ bs) i y h = absurd (cc h)
own_at v (t ∷ ts) [] i y h = absurd (cc h)
own_at v (t ∷ ts) (b ∷ bs) zero y h = (t, b, refl, refl, cc h)
own_at v (t ∷ ts) (b ∷ bs) (suc i) y h = own_at v ts bs i y h

to_moved : (w : Pair) (m : WasmModule) (other n : ℕ) (bs : List FunctionBody) (i : ℕ) (b : FunctionBody) → slice_get bs i ≡ Some b
    → slice_get (moved_bodies w m other n bs) i ≡ Some (record { locals = b.locals ++ scratch other b.code; code = moved_code w (locals_of m (n + i) b) b.code })
to_moved w m other n [] i b h = absurd (cc h)
to_moved w m other n (c ∷ bs) zero b h =
    let e : n ≡ n + 0 = omega arith in
    let f : c ≡ b = cc h in
    ap (λ n. Some (record { locals = c.locals ++ scratch other c.code; code = moved_code w (locals_of m n c) c.code })) e
    ∙ ap (λ (c : FunctionBody). Some (record { locals = c.locals ++ scratch other c.code; code = moved_code w (locals_of m (n + 0) c) c.code })) f
to_moved w m other n (c ∷ bs) (suc i) b h =
    let e : suc n + i ≡ n + suc i = omega arith in
    to_moved w m other (suc n) bs i b h ∙ ap (λ n. Some (record { locals = b.locals ++ scratch other b.code; code = moved_code w (locals_of m n b) b.code })) e

-- ---- imports that stay

staying_callees : (m v other : WasmModule) (n : ℕ) (b : Imported → Option ℕ) → ((i : Imported) → is_there (b i) ≡ is_there (bound_to other i))
    → ((t : ℕ) → is_type m t ≡ true → slice_get v.types (n + t) ≡ slice_get m.types t) → (is : List Imported) → Every (λ (x : Imported). TypeThere m x.kind) is
    → imported_callees v (map (moved_import n) (staying other is)) ≡ kept (map b (function_imports is)) (imported_callees m is)
staying_callees m v other n b as_bound types [] there = refl
staying_callees m v other n b as_bound types (i ∷ is) there =
    by i.kind i.module_name i.name (there 0 i refl) (staying_callees m v other n b as_bound types is (every_less (λ (x : Imported). TypeThere m x.kind) i is there))
  where
    with_one : (o : Option ℕ) (x : Bool) (a c : List ℕ) (t : ℕ) → is_type m t ≡ true → is_there o ≡ x
        → imported_callees v (map (moved_import n) (staying other is)) ≡ kept (map b (function_imports is)) (imported_callees m is)
        → let j : Imported = record { module_name = a; name = c; kind = imports.Func t } in
        imported_callees v (map (moved_import n) (if not x || false then j ∷ staying other is else staying other is)) ≡ kept (o ∷ map b (function_imports is)) (imported_callee m j t ∷ imported_callees m is)
    with_one None true a c t h e further = absurd (cc e)
    with_one None false a c t h e further =
        ap (λ o. option_map (an_import (import_name a c)) o ∷ imported_callees v (map (moved_import n) (staying other is))) (types t h)
        ∙ ap (λ cs. option_map (an_import (import_name a c)) (slice_get m.types t) ∷ cs) further
    with_one (Some y) true a c t h e further = further
    with_one (Some y) false a c t h e further = absurd (cc e)

    by : (k : ImportKind) (a c : List ℕ) → TypeThere m k → imported_callees v (map (moved_import n) (staying other is)) ≡ kept (map b (function_imports is)) (imported_callees m is)
        → let j : Imported = record { module_name = a; name = c; kind = k } in
        imported_callees v (map (moved_import n) (staying other (j ∷ is))) ≡ kept (map b (function_imports (j ∷ is))) (imported_callees m (j ∷ is))
    by (imports.Func t) a c h further =
        let j : Imported = record { module_name = a; name = c; kind = imports.Func t } in with_one (b j) (is_there (bound_to other j)) a c t h (as_bound j) further
    by (imports.Table l) a c h further = further
    by (imports.Memory l) a c h further = further
    by (imports.Global g) a c h further = further

no_callees : (v : WasmModule) (least most : Option ℕ) → imported_callees v (memory_import least most) ≡ []
no_callees v None most = refl
no_callees v (Some n) most = refl

-- ---- callees that are alike, place by place

abbrev Related : Pair → List (Option Callee) → List (Option Callee) → Type 0
Related w xs ys = (i : ℕ) (y : Option Callee) → slice_get ys i ≡ Some y → (x : Option Callee) × (slice_get xs i ≡ Some x) × IsMoved w y x

related_both : (w : Pair) (xs ys us vs : List (Option Callee)) → length xs ≡ length ys → Related w xs ys → Related w us vs → Related w (xs ++ us) (ys ++ vs)
related_both w xs ys us vs same f g i y h = by (splits ys vs i y h)
  where
    by : Splits ys vs i y → (x : Option Callee) × (slice_get (xs ++ us) i ≡ Some x) × IsMoved w y x
    by (inl p) = let r = f i y p in (r.0, get_first xs us i r.0 r.1, r.2)
    by (inr p) = let r = g p.0 y p.2 in (r.0, ap (slice_get (xs ++ us)) p.1 ∙ get_past xs us (length ys) p.0 same ∙ r.1, r.2)

import_itself : (w : Pair) (m : WasmModule) (is : List Imported) (i : ℕ) (y : Option Callee) → slice_get (imported_callees m is) i ≡ Some y → IsMoved w y y
import_itself w m [] i y h = absurd (cc h)
import_itself w m (x ∷ is) i y h = by x.kind i h (λ i h. import_itself w m is i y h)
  where
    one_import : (name : List ℕ) (o : Option FunctionType) → IsMoved w (option_map (an_import name) o) (option_map (an_import name) o)
    one_import name None = refl
    one_import name (Some t) = refl

    by : (k : ImportKind) (i : ℕ) → slice_get (if_function k (λ t. imported_callee m x t ∷ imported_callees m is) (imported_callees m is)) i ≡ Some y
        → ((i : ℕ) → slice_get (imported_callees m is) i ≡ Some y → IsMoved w y y) → IsMoved w y y
    by (imports.Func t) zero h further =
        let e : imported_callee m x t ≡ y = cc h in subst (λ y. IsMoved w y y) e (one_import (import_name x.module_name x.name) (slice_get m.types t))
    by (imports.Func t) (suc i) h further = further i h
    by (imports.Table l) i h further = further i h
    by (imports.Memory l) i h further = further i h
    by (imports.Global g) i h further = further i h

-- an own function with its code moved
own_moved : (w : Pair) (t : FunctionType) (b : FunctionBody) (more : List ValType) (k : ℕ) → k ≡ length t.params + length b.locals
    → IsMoved w (own_callee (Some t) b (tree_of b.code)) (own_callee (Some t) (record { locals = b.locals ++ more; code = moved_code w k b.code }) (tree_of (moved_code w k b.code)))
own_moved w t b more k same = by (tree_of b.code) (tree_moved w k b.code)
  where
    by : (o : Option Trees) → tree_of (moved_code w k b.code) ≡ option_map (moved_tree w k) o
        → IsMoved w (own_callee (Some t) b o) (own_callee (Some t) (record { locals = b.locals ++ more; code = moved_code w k b.code }) (tree_of (moved_code w k b.code)))
    by None e = ap (own_callee (Some t) (record { locals = b.locals ++ more; code = moved_code w k b.code })) e
    by (Some code) e = (
      more,
      ap (own_callee (Some t) (record { locals = b.locals ++ more; code = moved_code w k b.code })) e ∙ ap (λ k. Some (a_function t (b.locals ++ more) (moved_tree w k code))) same,
    )

related_own : (w : Pair) (m p v : WasmModule) (other : ℕ) (g : ℕ → ℕ) → Every (λ t. is_type m t ≡ true) m.functions → ((t : ℕ) → is_type m t ≡ true → slice_get v.types (g t) ≡ slice_get m.types t)
    → ((i : ℕ) → own_type p i ≡ own_type m i)
    → Related w (own_callees v (map g m.functions) (moved_bodies w p other 0 m.bodies)) (own_callees m m.functions m.bodies)
related_own w m p v other g there types same i y h =
    let at = own_at m m.functions m.bodies i y h in
    let n = at.0 in
    let b = at.1 in
    let t = get_there m.types n (lt_true n (length m.types) (there i n at.2)) in
    let k = locals_of p (0 + i) b in
    let from : 0 + i ≡ i = omega arith in
    let own : own_type p (0 + i) ≡ t.0 = ap (own_type p) from ∙ same i ∙ own_is m i n t.0 at.2 t.1 in
    let c : FunctionBody = record { locals = b.locals ++ scratch other b.code; code = moved_code w k b.code } in
    let here = at_own v (map g m.functions) (moved_bodies w p other 0 m.bodies) i (g n) c (slice_get-map g m.functions i ∙ ap (option_map g) at.2) (to_moved w p other 0 m.bodies i b at.3) in
    let type : slice_get v.types (g n) ≡ Some t.0 = types n (there i n at.2) ∙ t.1 in (
      own_callee (Some t.0) c (tree_of c.code),
      here ∙ ap (λ o. Some (own_callee o c (tree_of c.code))) type,
      subst (λ y. IsMoved w y (own_callee (Some t.0) c (tree_of c.code))) (ap (λ o. own_callee o b (tree_of b.code)) (sym t.1) ∙ at.4)
          (own_moved w t.0 b (scratch other b.code) k (ap (λ (t : FunctionType). length t.params + length b.locals) own)),
    )

module _ (w : Pair) (rows : MeetsNoRow w) (first : IsWhole w.first) (second : IsWhole w.second) where
  abbrev past : ℕ → ℕ
  past t = length w.first.types + t

  abbrev here : ℕ → ℕ
  here t = 0 + t

  abbrev q : WasmModule
  q = at_addresses (past_first w) w.second

  abbrev c1 : List (Option Callee)
  c1 = imported_callees w.first w.first.imports

  abbrev c2 : List (Option Callee)
  c2 = imported_callees q w.second.imports

  abbrev o1 : List (Option Callee)
  o1 = own_callees (linked w) w.first.functions (moved_bodies w w.first (entries w.second) 0 w.first.bodies)

  abbrev o2 : List (Option Callee)
  o2 = own_callees (linked w) (map past w.second.functions) (moved_bodies w w.second (entries w.first) 0 q.bodies)

  abbrev last : List (Option Callee)
  last = own_callees (linked w) (start_types w w.first.start w.second.start) (start_bodies w w.first.start (second_start w))

  there1 : Every (λ (x : Imported). TypeThere w.first x.kind) w.first.imports
  there1 i x h = import_type w.first (take i w.first.imports) x.kind (imports_kept w.first first.is_valid i x h)

  there2 : Every (λ (x : Imported). TypeThere q x.kind) w.second.imports
  there2 i x h = same x.kind (import_type w.second (take i w.second.imports) x.kind (imports_kept w.second second.is_valid i x h))
    where
      same : (k : ImportKind) → TypeThere w.second k → TypeThere (at_addresses (past_first w) w.second) k
      same (imports.Func t) e = e
      same (imports.Table l) e = tt
      same (imports.Memory l) e = tt
      same (imports.Global g) e = tt

  imported_are : imported_callees (linked w) (linked w).imports ≡ kept (first_bindings w) c1 ++ kept (second_bindings w) c2
  imported_are =
      let fronts = staying w.second w.first.imports in
      let moved = map (moved_import (length w.first.types)) (staying w.first w.second.imports) in
      let memory = memory_import (pages w) (least_maximum w) in
      ap (imported_callees (linked w)) (linked_imports_are w) ∙ imported_join (linked w) fronts (moved ++ memory)
      ∙ ap (λ cs. cs ++ imported_callees (linked w) (moved ++ memory))
      (ap (imported_callees (linked w)) (sym (moved_by_none fronts))
      ∙ staying_callees w.first (linked w) w.second 0 (λ i. option_map (λ f. (past_first w).functions + f) (bound_to w.second i))
      (λ i. mapped_there (λ f. (past_first w).functions + f) (bound_to w.second i)) (first_types w rows first second) w.first.imports there1)
      ∙ ap (λ cs. kept (first_bindings w) c1 ++ cs)
      (imported_join (linked w) moved memory ∙ ap (λ cs. imported_callees (linked w) moved ++ cs) (no_callees (linked w) (pages w) (least_maximum w)) ∙ append-nil (imported_callees (linked w) moved)
      ∙ staying_callees q (linked w) w.first (length w.first.types) (bound_to w.first) (λ i. refl) (λ t e. second_types w rows first second t) w.second.imports there2)

  own_are : own_callees (linked w) (linked w).functions (linked w).bodies ≡ o1 ++ (o2 ++ last)
  own_are =
      let bs = moved_bodies w w.first (entries w.second) 0 w.first.bodies in
      let cs = moved_bodies w w.second (entries w.first) 0 q.bodies in
      let a = many_moved w w.first (entries w.second) 0 w.first.bodies in
      let b = first.bodies_match in
      let c = many_moved w w.second (entries w.first) 0 q.bodies in
      let d = many_addressed w in
      let e = second.bodies_match in
      let f = length-map w.second.functions past in
      ap (λ fs. own_callees (linked w) fs (linked w).bodies) (linked_functions_are w) ∙ ap (own_callees (linked w) (linked_functions w)) (linked_bodies_are w)
      ∙ own_join (linked w) w.first.functions (map past w.second.functions ++ start_types w w.first.start w.second.start) bs (cs ++ start_bodies w w.first.start (second_start w)) (omega (arith, a, b))
      ∙ ap (λ xs. o1 ++ xs)
      (own_join (linked w) (map past w.second.functions) (start_types w w.first.start w.second.start) cs (start_bodies w w.first.start (second_start w)) (omega (arith, c, d, e, f)))

  callees_are : callees (linked w) ≡ (kept (first_bindings w) c1 ++ kept (second_bindings w) c2) ++ (o1 ++ (o2 ++ last))
  callees_are = ap (λ xs. xs ++ own_callees (linked w) (linked w).functions (linked w).bodies) imported_are ∙ ap (λ xs. (kept (first_bindings w) c1 ++ kept (second_bindings w) c2) ++ xs) own_are

  many1 : length o1 ≡ length w.first.functions
  many1 =
      let a = many_moved w w.first (entries w.second) 0 w.first.bodies in
      let b = first.bodies_match in many_own (linked w) w.first.functions (moved_bodies w w.first (entries w.second) 0 w.first.bodies) (omega (arith, a, b))

  many2 : length o2 ≡ length w.second.functions
  many2 =
      let c = many_moved w w.second (entries w.first) 0 q.bodies in
      let d = many_addressed w in
      let e = second.bodies_match in
      let f = length-map w.second.functions past in
      many_own (linked w) (map past w.second.functions) (moved_bodies w w.second (entries w.first) 0 q.bodies) (omega (arith, c, d, e, f)) ∙ f

  same_own : (i : ℕ) → own_type w.second i ≡ own_type q i
  same_own i = refl

  map_here : (ts : List ℕ) → map here ts ≡ ts
  map_here [] = refl
  map_here (t ∷ ts) = let e : 0 + t ≡ t = omega arith in ap (λ t. t ∷ map here ts) e ∙ ap (λ ts. t ∷ ts) (map_here ts)

  related : Related w ((c1 ++ o1) ++ (c2 ++ o2)) (all_callees w)
  related =
      let p1 = own_callees w.first w.first.functions w.first.bodies in
      let p2 = own_callees q w.second.functions q.bodies in
      let n1 = many_own w.first w.first.functions w.first.bodies first.bodies_match in
      let a = length-append c1 o1 in
      let b = length-append c1 p1 in
      let c = many1 in
      related_both w (c1 ++ o1) (c1 ++ p1) (c2 ++ o2) (c2 ++ p2) (omega (arith, a, b, c, n1))
      (related_both w c1 c1 o1 p1 refl (λ i y h. (y, h, import_itself w w.first w.first.imports i y h)) own1)
      (related_both w c2 c2 o2 p2 refl (λ i y h. (y, h, import_itself w q w.second.imports i y h))
      (related_own w q w.second (linked w) (entries w.first) past (functions_kept w.second second.is_valid) (λ t e. second_types w rows first second t) same_own))
    where
      own1 : Related w o1 (own_callees w.first w.first.functions w.first.bodies)
      own1 =
          subst (λ fs. Related w (own_callees (linked w) fs (moved_bodies w w.first (entries w.second) 0 w.first.bodies)) (own_callees w.first w.first.functions w.first.bodies))
          (map_here w.first.functions)
          (related_own w w.first w.first (linked w) (entries w.second) here (functions_kept w.first first.is_valid) (first_types w rows first second) (λ i. refl))

  many_callees : length (all_callees w) ≡ length (address_types w)
  many_callees =
      let p1 = own_callees w.first w.first.functions w.first.bodies in
      let p2 = own_callees q w.second.functions q.bodies in
      let a = length-append (c1 ++ p1) (c2 ++ p2) in
      let b = length-append c1 p1 in
      let c = length-append c2 p2 in
      let d = many_own w.first w.first.functions w.first.bodies first.bodies_match in
      let e = many_addressed w in
      let f = second.bodies_match in
      let g = many_own q w.second.functions q.bodies (omega (arith, e, f)) in
      let h = many_imported w.first w.first.imports in
      let i = many_imported q w.second.imports in
      let j = length-append (imported_functions w.first.imports ++ w.first.functions) (map past (imported_functions w.second.imports) ++ map past w.second.functions) in
      let k = length-append (imported_functions w.first.imports) w.first.functions in
      let l = length-append (map past (imported_functions w.second.imports)) (map past w.second.functions) in
      let m = length-map (imported_functions w.second.imports) past in
      let n = length-map w.second.functions past in
      omega (arith, a, b, c, d, g, h, i, j, k, l, m, n)

  found_of : (o : Option (Option Callee)) (c : Option Callee) → o ≡ Some c → found o ≡ c
  found_of o c e = ap found e

  -- what the number of a function calls is what its address calls, moved
  pub callee_moved : (a : ℕ) (t : FunctionType) → type_at w a ≡ Some t → IsMoved w (called w a) (callee_at (linked w) (number w a))
  callee_moved a t h =
      let it = stands w rows (λ b. type_at w b ≡ Some t) (type_stays w rows t) a h in
      let at = found_there w (slice_get (address_types w) it.address) t it.has in
      let there = slice_get_within (address_types w) it.address at.0 at.1 in
      let many = many_callees in
      let y = get_there (all_callees w) it.address (omega (arith, many, there)) in
      let x = related it.address y.0 y.1 in
      let moved = moves w c1 o1 c2 o2 last (first_many w ∙ sym (many_imported w.first w.first.imports)) many1 (second_many w ∙ sym (many_imported q w.second.imports)) many2 a it.address x.0 it.is_end it.unbound x.1 in
      let from : called w a ≡ y.0 = ap (callee_of w) it.is_end ∙ ap found y.1 in
      let to : callee_at (linked w) (number w a) ≡ x.0 = ap (λ cs. found (slice_get cs (number w a))) callees_are ∙ ap found moved in
      subst (λ c. IsMoved w c (callee_at (linked w) (number w a))) (sym from) (subst (IsMoved w y.0) (sym to) x.2)
