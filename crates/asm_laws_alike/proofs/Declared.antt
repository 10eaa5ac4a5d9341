-- What alike modules declare: first values, heaps, imports, signatures and exports.
use Rattle.std.proofs.Common.{◌≡◌, ℕ, suc, Bool, true, false, ◌||◌, List, [], ◌∷◌, ◌++◌, length, Option, Some, None, refl, sym, ap, ap₂, ◌∙◌, subst, option_map, option_and_then}
use Rattle.std.specs.Prelude.{if◌then◌else◌, map, slice_get, codes, bytes_eq}
use Rattle.std.specs.List.{AllZip}
use Rattle.std.proofs.lemmas.List.Elements.{All-contains}
use Rattle.sem_words.specs.declared.js_value.JsValue.{JsValue}
use Rattle.session_lang.specs.Script.{ScriptPlain}
use Rattle.asm_lang.specs.Trees.{Init, number, decimal, foreign_int, foreign_double, member, math, view}
use Rattle.asm_lang.specs.Modules.{Stmt, Stmts, Variable, Param, Function, Module}
use Rattle.asm_lang_valid.specs.declared.meaning.Builtin.TheVariants.{Imul, Clz32}
use Rattle.asm_lang_valid.specs.Scope.{is_foreign, a_foreign, a_builtin, an_outside, constructors, constructor_in, viewed, init_meaning, gives_value, last_gives_value, Signature, signature_of}
use Rattle.asm_lang_valid.specs.Typing.{Scope}
use Rattle.asm_lang_valid.specs.Typed.{scope_of}
use Rattle.asm_lang_valid.specs.Refusal.{is_view, any_view, has_heap, with_global, global_imports, foreign_globals, Exported, exported_from}
use Rattle.asm_lang_exec.specs.Runs.{Binding, binding}
use Rattle.asm_lang_exec.specs.Values.{marked}
use Rattle.asm_lang_exec.specs.Meaning.{first_value, parameters, first_locals}
use Rattle.asm_lang_exec.specs.Session.{global_value, with_binding, first_globals, export_number, exported_function}
use Rattle.asm_short_lang.specs.Renaming.{local_names}
use Rattle.asm_short_lang.specs.Short.{Offer, offers}
use Rattle.asm_laws_alike.specs.Places.{has_value, if_valued, valued_names, bare, Open}
use Rattle.asm_laws_alike.specs.Code.{Pair, ArePaired, SameOption, neither, both, no_part, a_part, SameStmt, same_block, same_plain, same_empty, same_if_only, same_if_else, same_returns, same_while, same_do, same_for, same_breaks, same_continues, same_labelled, same_switches, SameStmts, same_no_stmts, same_stmts}
use Rattle.asm_laws_alike.specs.Alike.{SameFunction, SameExported, AreAlike}
use Rattle.asm_laws_alike.proofs.Values.{names_of, values_of, SameBindings, no_bindings}

-- ---- bindings of lists one after the other

names_of-append : (bs cs : List Binding) → names_of (bs ++ cs) ≡ names_of bs ++ names_of cs
names_of-append [] cs = refl
names_of-append (b ∷ bs) cs = ap (λ ns. b.name ∷ ns) (names_of-append bs cs)

values_of-append : (bs cs : List Binding) → values_of (bs ++ cs) ≡ values_of bs ++ values_of cs
values_of-append [] cs = refl
values_of-append (b ∷ bs) cs = ap (λ vs. b.value ∷ vs) (values_of-append bs cs)

same_appended : (a a' b b' : List (List ℕ)) (bs bs' cs cs' : List Binding) → SameBindings a a' bs bs' → SameBindings b b' cs cs' → SameBindings (a ++ b) (a' ++ b') (bs ++ cs) (bs' ++ cs')
same_appended a a' b b' bs bs' cs cs' h k = record {
  names = names_of-append bs cs ∙ ap₂ (λ x y. x ++ y) h.names k.names;
  names' = names_of-append bs' cs' ∙ ap₂ (λ x y. x ++ y) h.names' k.names';
  values = values_of-append bs' cs' ∙ (ap₂ (λ x y. x ++ y) h.values k.values ∙ sym (values_of-append bs cs));
}

-- ---- the variables with which a function begins

pub data SameLocals (l l' : List (List ℕ)) : Option (List Binding) → Option (List Binding) → Type 0 where
  no_locals : SameLocals l l' None None
  both_locals : {bs bs' : List Binding} → SameBindings l l' bs bs' → SameLocals l l' (Some bs) (Some bs')

abbrev param_names : List Param → List (List ℕ)
param_names ps = map (λ (p : Param). p.name) ps

abbrev doubles : List Param → List Bool
doubles ps = map (λ (p : Param). p.double) ps

one_more : (p p' : Param) (v : JsValue) (l l' : List (List ℕ)) (o o' : Option (List Binding)) → p'.double ≡ p.double → SameLocals l l' o o'
    → SameLocals (p.name ∷ l) (p'.name ∷ l') (option_map (λ bs. binding p.name (marked p.double v) ∷ bs) o) (option_map (λ bs. binding p'.name (marked p'.double v) ∷ bs) o')
one_more p p' v l l' o o' d no_locals = no_locals
one_more p p' v l l' o o' d (both_locals h) = both_locals (record { names = ap (λ ns. p.name ∷ ns) h.names; names' = ap (λ ns. p'.name ∷ ns) h.names'; values = ap₂ (λ b vs. marked b v ∷ vs) d h.values })

params_same : (ps ps' : List Param) (vs : List JsValue) → doubles ps' ≡ doubles ps → SameLocals (param_names ps) (param_names ps') (parameters ps vs) (parameters ps' vs)
params_same [] [] [] e = both_locals no_bindings
params_same [] [] (v ∷ vs) e = no_locals
params_same [] (q ∷ qs) vs e = absurd (cc e)
params_same (p ∷ ps) [] vs e = absurd (cc e)
params_same (p ∷ ps) (q ∷ qs) [] e = no_locals
params_same (p ∷ ps) (q ∷ qs) (v ∷ vs) e =
    let d : q.double ≡ p.double = cc e in
    let ds : doubles qs ≡ doubles ps = cc e in
    one_more p q v (param_names ps) (param_names qs) (parameters ps vs) (parameters qs vs) d (params_same ps qs vs ds)

abbrev variable_names : List Variable → List (List ℕ)
variable_names vs = map (λ (v : Variable). v.name) vs

abbrev inits : List Variable → List Init
inits vs = map (λ (v : Variable). v.init) vs

abbrev variables_of : List Variable → List Binding
variables_of vs = map (λ (v : Variable). binding v.name (first_value v.init)) vs

variables_same : (vs vs' : List Variable) → inits vs' ≡ inits vs → SameBindings (variable_names vs) (variable_names vs') (variables_of vs) (variables_of vs')
variables_same [] [] e = no_bindings
variables_same [] (w ∷ ws) e = absurd (cc e)
variables_same (v ∷ vs) [] e = absurd (cc e)
variables_same (v ∷ vs) (w ∷ ws) e =
    let i : w.init ≡ v.init = cc e in
    let is : inits ws ≡ inits vs = cc e in
    let h = variables_same vs ws is in
    record { names = ap (λ ns. v.name ∷ ns) h.names; names' = ap (λ ns. w.name ∷ ns) h.names'; values = ap₂ (λ x xs. first_value x ∷ xs) i h.values }

with_variables : (l l' k k' : List (List ℕ)) (o o' : Option (List Binding)) (cs cs' : List Binding) → SameLocals l l' o o' → SameBindings k k' cs cs'
    → SameLocals (l ++ k) (l' ++ k') (option_map (λ bs. bs ++ cs) o) (option_map (λ bs. bs ++ cs') o')
with_variables l l' k k' o o' cs cs' no_locals h = no_locals
with_variables l l' k k' o o' cs cs' (both_locals {bs = bs} {bs' = bs'} g) h = both_locals (same_appended l l' k k' bs bs' cs cs' g h)

pub locals_same : (pairs : List Pair) (m m' : Module) (f f' : Function) (vs : List JsValue) → SameFunction pairs m m' f f' → SameLocals (local_names f) (local_names f') (first_locals f vs) (first_locals f' vs)
locals_same pairs m m' f f' vs h =
    with_variables (param_names f.params) (param_names f'.params) (variable_names f.locals) (variable_names f'.locals) (parameters f.params vs) (parameters f'.params vs) (variables_of f.locals) (variables_of f'.locals)
    (params_same f.params f'.params vs h.params) (variables_same f.locals f'.locals h.locals)

-- ---- the variables of the module

abbrev bares : List Variable → List Init
bares vs = map (λ (v : Variable). bare v.init) vs

names_bound : (script : ScriptPlain) (vs : List Variable) → names_of (first_globals script vs) ≡ valued_names vs
names_bound script [] = refl
names_bound script (v ∷ vs) = by v.init (names_bound script vs)
  where
    by : (i : Init) → names_of (first_globals script vs) ≡ valued_names vs → names_of (with_binding v.name (global_value script i) (first_globals script vs)) ≡ if_valued (has_value i) v.name (valued_names vs)
    by (number z) e = ap (λ ns. v.name ∷ ns) e
    by (decimal bs) e = e
    by (foreign_int f p) e = ap (λ ns. v.name ∷ ns) e
    by (foreign_double f p) e = e
    by (member f p) e = e
    by (math f p) e = e
    by (view f p b) e = e

abbrev if_some : Option JsValue → List JsValue → List JsValue
if_some None vs = vs
if_some (Some v) vs = v ∷ vs

abbrev values_from : ScriptPlain → List Init → List JsValue
values_from script [] = []
values_from script (i ∷ is) = if_some (global_value script i) (values_from script is)

bare_value : (script : ScriptPlain) (i : Init) → global_value script i ≡ global_value script (bare i)
bare_value script (number z) = refl
bare_value script (decimal bs) = refl
bare_value script (foreign_int f p) = refl
bare_value script (foreign_double f p) = refl
bare_value script (member f p) = refl
bare_value script (math f p) = refl
bare_value script (view f p b) = refl

values_bound : (script : ScriptPlain) (vs : List Variable) → values_of (first_globals script vs) ≡ values_from script (bares vs)
values_bound script [] = refl
values_bound script (v ∷ vs) = by (global_value script v.init) ∙ ap₂ if_some (bare_value script v.init) (values_bound script vs)
  where
    by : (o : Option JsValue) → values_of (with_binding v.name o (first_globals script vs)) ≡ if_some o (values_of (first_globals script vs))
    by None = refl
    by (Some x) = refl

pub globals_same : (script : ScriptPlain) (vs vs' : List Variable) → bares vs' ≡ bares vs → SameBindings (valued_names vs) (valued_names vs') (first_globals script vs) (first_globals script vs')
globals_same script vs vs' e = record { names = names_bound script vs; names' = names_bound script vs'; values = values_bound script vs' ∙ (ap (values_from script) e ∙ sym (values_bound script vs)) }

-- ---- the heap and the imports

abbrev bare_view : Init → Bool
bare_view (view f p b) = is_view (viewed (constructor_in constructors p))
bare_view _ = false

view_of_init : (m : Module) (i : Init) → is_view (init_meaning m i) ≡ bare_view (bare i)
view_of_init m (number z) = refl
view_of_init m (decimal bs) = refl
view_of_init m (foreign_int f p) = refl
view_of_init m (foreign_double f p) = refl
view_of_init m (member f p) = by (is_foreign m f)
  where
    by : (b : Bool) → is_view (if b then a_foreign p else an_outside) ≡ false
    by true = refl
    by false = refl
view_of_init m (math f p) = by (bytes_eq (codes "imul") p) (bytes_eq (codes "clz32") p)
  where
    by : (a b : Bool) → is_view (if a then a_builtin Imul else (if b then a_builtin Clz32 else an_outside)) ≡ false
    by true b = refl
    by false true = refl
    by false false = refl
view_of_init m (view f p b) = refl

abbrev views_in : List Init → Bool
views_in [] = false
views_in (i ∷ is) = bare_view i || views_in is

views_of : (m : Module) (vs : List Variable) → any_view m vs ≡ views_in (bares vs)
views_of m [] = refl
views_of m (v ∷ vs) = ap₂ (λ x y. x || y) (view_of_init m v.init) (views_of m vs)

pub heap_same : (m m' : Module) → bares m'.globals ≡ bares m.globals → has_heap m' ≡ has_heap m
heap_same m m' e = views_of m' m'.globals ∙ (ap views_in e ∙ sym (views_of m m.globals))

abbrev imports_in : List (List ℕ) → List Init → List (List ℕ)
imports_in seen [] = seen
imports_in seen (i ∷ is) = imports_in (with_global seen i) is

bare_import : (seen : List (List ℕ)) (i : Init) → with_global seen i ≡ with_global seen (bare i)
bare_import seen (number z) = refl
bare_import seen (decimal bs) = refl
bare_import seen (foreign_int f p) = refl
bare_import seen (foreign_double f p) = refl
bare_import seen (member f p) = refl
bare_import seen (math f p) = refl
bare_import seen (view f p b) = refl

imports_of : (seen : List (List ℕ)) (vs : List Variable) → global_imports seen vs ≡ imports_in seen (bares vs)
imports_of seen [] = refl
imports_of seen (v ∷ vs) = ap (λ s. global_imports s vs) (bare_import seen v.init) ∙ imports_of (with_global seen (bare v.init)) vs

pub foreign_same : (m m' : Module) → bares m'.globals ≡ bares m.globals → foreign_globals m' ≡ foreign_globals m
foreign_same m m' e = imports_of [] m'.globals ∙ (ap (imports_in []) e ∙ sym (imports_of [] m.globals))

-- ---- signatures

module _ (pairs : List Pair) (c c' : Scope) where
  same_gives_value : {a a' : Open} {s s' : Stmt} → SameStmt pairs c c' a a' s s' → gives_value s' ≡ gives_value s
  same_gives_value (same_block ss) = refl
  same_gives_value (same_plain e) = refl
  same_gives_value same_empty = refl
  same_gives_value (same_if_only e s) = refl
  same_gives_value (same_if_else e s r) = refl
  same_gives_value (same_returns no_part) = refl
  same_gives_value (same_returns (a_part e)) = refl
  same_gives_value (same_while e s) = refl
  same_gives_value (same_do s e) = refl
  same_gives_value (same_for x y z s) = refl
  same_gives_value (same_breaks l) = refl
  same_gives_value (same_continues l) = refl
  same_gives_value (same_labelled k s) = refl
  same_gives_value (same_switches e cs) = refl

  pub same_result : {a a' : Open} {ss ss' : Stmts} → SameStmts pairs c c' a a' ss ss' → last_gives_value ss' ≡ last_gives_value ss
  same_result same_no_stmts = refl
  same_result (same_stmts s same_no_stmts) = same_gives_value s
  same_result (same_stmts s (same_stmts r rs)) = same_result (same_stmts r rs)

length_doubles : (ps ps' : List Param) → doubles ps' ≡ doubles ps → length ps' ≡ length ps
length_doubles [] [] e = refl
length_doubles [] (q ∷ qs) e = absurd (cc e)
length_doubles (p ∷ ps) [] e = absurd (cc e)
length_doubles (p ∷ ps) (q ∷ qs) e = let ds : doubles qs ≡ doubles ps = cc e in ap (λ n. suc n) (length_doubles ps qs ds)

pub same_params : (pairs : List Pair) (m m' : Module) (f f' : Function) → SameFunction pairs m m' f f' → length f'.params ≡ length f.params
same_params pairs m m' f f' h = length_doubles f.params f'.params h.params

pub signature_same : (pairs : List Pair) (m m' : Module) (f f' : Function) → SameFunction pairs m m' f f' → signature_of f' ≡ signature_of f
signature_same pairs m m' f f' h =
    let p = same_params pairs m m' f f' h in
    let r = same_result pairs (scope_of m f) (scope_of m' f') h.body in
    ap₂ (λ n b. record { params = n; result = b }) p r

-- ---- exports

abbrev offer : List ℕ → Option Signature → Offer
offer k s = record { key = k; signature = s }

abbrev offer_of : Module → Exported → Offer
offer_of m e = offer e.key (option_map signature_of (slice_get m.functions e.function))

module _ (m m' : Module) (h : AreAlike m m') where
  pub of_pair : (f f' : Function) → ArePaired h.pairs f f' → SameFunction h.pairs m m' f f'
  of_pair f f' p = All-contains (λ (p : Pair). SameFunction h.pairs m m' p.old p.new) h.pairs (record { old = f; new = f' }) h.functions p

  pub exported_same : (key : List ℕ) → SameOption h.pairs (exported_function m key) (exported_function m' key)
  exported_same key = by (exported_from m m.exports) (exported_from m' m'.exports) h.exports
    where
      by : (es es' : List Exported) → AllZip (SameExported h.pairs m m') es es'
          → SameOption h.pairs (option_and_then (λ i. slice_get m.functions i) (export_number es key)) (option_and_then (λ i. slice_get m'.functions i) (export_number es' key))
      by [] [] z = neither
      by [] (e ∷ es) z = absurd z
      by (e ∷ es) [] z = absurd z
      by (e ∷ es) (e' ∷ es') z =
          let k : bytes_eq e.key key ≡ bytes_eq e'.key key = ap (λ n. bytes_eq n key) (sym z.0.key) in
          subst (λ t. SameOption h.pairs (option_and_then (λ i. slice_get m.functions i) (if bytes_eq e.key key then Some e.function else export_number es key)) (option_and_then (λ i. slice_get m'.functions i) (if t then Some e'.function else export_number es' key))) k
          (test (bytes_eq e.key key) (by es es' z.1))
        where
          test : (t : Bool) → SameOption h.pairs (option_and_then (λ i. slice_get m.functions i) (export_number es key)) (option_and_then (λ i. slice_get m'.functions i) (export_number es' key))
              → SameOption h.pairs (option_and_then (λ i. slice_get m.functions i) (if t then Some e.function else export_number es key)) (option_and_then (λ i. slice_get m'.functions i) (if t then Some e'.function else export_number es' key))
          test true rest = z.0.function
          test false rest = rest

  option_signature : (o o' : Option Function) → SameOption h.pairs o o' → option_map signature_of o' ≡ option_map signature_of o
  option_signature o o' neither = refl
  option_signature o o' (both {f = f} {f' = f'} p) = ap (λ (s : Signature). Some s) (signature_same h.pairs m m' f f' (of_pair f f' p))

  pub offers_same : offers m' ≡ offers m
  offers_same = by (exported_from m m.exports) (exported_from m' m'.exports) h.exports
    where
      by : (es es' : List Exported) → AllZip (SameExported h.pairs m m') es es'
          → map (offer_of m') es' ≡ map (offer_of m) es
      by [] [] z = refl
      by [] (e ∷ es) z = absurd z
      by (e ∷ es) [] z = absurd z
      by (e ∷ es) (e' ∷ es') z = ap₂ (λ (o : Offer) os. o ∷ os) (ap₂ offer z.0.key (option_signature _ _ z.0.function)) (by es es' z.1)
