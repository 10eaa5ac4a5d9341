-- Where reading stops is the first place that breaks the grammar.
use Rattle.std.proofs.Common.{ℕ, ◌≡◌, ◌≤◌, ◌<◌, ◌+◌, List, [], ◌∷◌, ◌++◌, length, take, drop, None, Result, Err, refl, sym, ap, subst, ◌∙◌, arith, append_assoc, append-nil, length-append, length-drop}
use Rattle.std.proofs.lemmas.List.{take_at, drop-drop}
use Rattle.asm_lang.specs.Lexemes.{Class, directive, Lexeme}
use Rattle.asm_lang.specs.Trees.{variable, element, plain, if_only, member, Heading, ModuleTree}
use Rattle.asm_lang.specs.Grammar.{IsModule}
use Rattle.asm_lang.specs.Machine.{Fault, grammar, no_use_asm, State, after_name, after_index, after_expr, in_rest, ends, ends_do, after_stmt_name, at_return, at_target, after_arm, after_member, at_marks, at_locals, in_locals, may_comma, at_end, Step, goes, expects, either, refuses, use_by, advance, Refusal, ended, stops, run, at_start, failed}
use Rattle.asm_lang.specs.Faults.{IsViable, IsPair, IsNegativeZero, IsMissingUse, IsFirstFault}
use Rattle.asm_lang.proofs.CompleteModules.{heading_run, module_read}
use Rattle.asm_lang.proofs.Reached.{Comes, Explains, Moves}
use Rattle.asm_lang.proofs.Sound.{advance_reaches, start_comes}
use Rattle.asm_lang.proofs.Viable.{PromiseStep, Ending, moved_step, finish_step}

refuses_run : (f : Fault) (back xs : List Lexeme) → run (refuses f back) xs ≡ failed f (back ++ xs)
refuses_run f back [] = ap (failed f) (sym (append-nil back))
refuses_run f back (t ∷ ts) = refuses_run f (back ++ t ∷ []) ts ∙ ap (failed f) (append_assoc back (t ∷ []) ts)

same_refusal : (a b : Refusal) (x y : Result ModuleTree Refusal) → Err a ≡ x → x ≡ y → y ≡ Err b → a ≡ b
same_refusal a b x y h i j = cc

same_failure : (f g : Fault) (xs ys : List Lexeme) → failed f xs ≡ failed g ys → (f ≡ g) × (xs ≡ ys)
same_failure f g xs ys h =
    let is : (let r : Refusal = record { fault = f; rest = xs } in r) ≡ record { fault = g; rest = ys } = same_refusal (record { fault = f; rest = xs }) (record { fault = g; rest = ys }) (failed f xs) (failed g ys) refl h refl in
    (ap (λ (r : Refusal). r.fault) is, ap (λ (r : Refusal). r.rest) is)

-- a step that doesn't go on with the tokens after it, or with their end
abbrev pub IsStuck : Step → List Lexeme → Fault → List Lexeme → Type 0
IsStuck last [] f rest = stops last ≡ failed f rest
IsStuck last (t ∷ ts) f rest = (back : List Lexeme) × (advance last t ≡ refuses f back) × (rest ≡ back ++ ts)

pub record Stopped (xs : List Lexeme) (f : Fault) (rest : List Lexeme) : Type 0 where
  pub front : List Lexeme
  pub last : Step
  pub after : List Lexeme
  pub parts : xs ≡ front ++ after
  pub promise : PromiseStep front last
  pub goes_to : (ys : List Lexeme) → run at_start (front ++ ys) ≡ run last ys
  pub stuck_at : IsStuck last after f rest

walk : (ys pre : List Lexeme) (s : Step) (f : Fault) (rest : List Lexeme) → PromiseStep pre s → ((zs : List Lexeme) → run at_start (pre ++ zs) ≡ run s zs) → run s ys ≡ failed f rest → Stopped (pre ++ ys) f rest
walk [] pre s f rest p g e = record { front = pre; last = s; after = []; parts = refl; promise = p; goes_to = g; stuck_at = e }
walk (t ∷ ts) pre s f rest p g e =
    let on : (r : Step) → ((zs : List Lexeme) → Comes (pre ++ t ∷ zs) r zs) → advance s t ≡ r → run r ts ≡ failed f rest → Stopped (pre ++ t ∷ ts) f rest =
    λ r c is k. subst (λ (xs : List Lexeme). Stopped xs f rest) (append_assoc pre (t ∷ []) ts)
    (walk ts (pre ++ t ∷ []) r f rest (λ zs. moved_step r pre t zs (c zs)) (λ zs. ap (run at_start) (append_assoc pre (t ∷ []) zs) ∙ g (t ∷ zs) ∙ ap (λ q. run q zs) is) k) in
    let P : Step → Type 0 = λ r. advance s t ≡ r → ((zs : List Lexeme) → Moves (pre ++ t ∷ zs) t r zs) → run r ts ≡ failed f rest → Stopped (pre ++ t ∷ ts) f rest in
    let step : (r : Step) → P r = elim [
      | goes q ↦ λ is c k. on (goes q) c is k
      | expects v j ↦ λ is c k. on (expects v j) c is k
      | either v d q j r ↦ λ is c k. on (either v d q j r) c is k
      | refuses h back ↦ λ is c k.
          let same = same_failure h f (back ++ ts) rest (sym (refuses_run h back ts) ∙ k) in
          record { front = pre; last = s; after = t ∷ ts; parts = refl; promise = p; goes_to = g; stuck_at = (back, is ∙ ap (λ x. refuses x back) same.0, sym same.1) }
    ] in
    step (advance s t) refl (λ zs. advance_reaches (pre ++ t ∷ zs) s t zs (p (t ∷ zs))) e

pub stopped : (xs : List Lexeme) (f : Fault) (rest : List Lexeme) → run at_start xs ≡ failed f rest → Stopped xs f rest
stopped xs f rest e = walk xs [] at_start f rest start_comes (λ zs. refl) e

-- ---- the place

no_rest : (f : Fault) (rest : List Lexeme) → failed grammar [] ≡ failed f rest → (rest ≡ []) × (f ≡ grammar)
no_rest f rest e = let h = same_failure grammar f [] rest e in (sym h.1, sym h.0)

ended_rest : (s : State) (f : Fault) (rest : List Lexeme) → ended s ≡ failed f rest → (rest ≡ []) × (f ≡ grammar)
ended_rest (at_end b m) f rest e = absurd cc
ended_rest (after_name p n k) f rest e = ended_rest (k (variable n.at n.text)) f rest e
ended_rest (after_index p n i k) f rest e = ended_rest (k (element n.at n.text i)) f rest e
ended_rest (after_expr p x k) f rest e = ended_rest (k x) f rest e
ended_rest (in_rest es k) f rest e = ended_rest (k es) f rest e
ended_rest (ends s) f rest e = ended_rest s f rest e
ended_rest (ends_do s) f rest e = ended_rest s f rest e
ended_rest (after_stmt_name n k) f rest e = ended_rest (k (plain n.at (variable n.at n.text))) f rest e
ended_rest (at_return k) f rest e = ended_rest (k None) f rest e
ended_rest (at_target k) f rest e = ended_rest (k None) f rest e
ended_rest (after_arm at c s k) f rest e = ended_rest (k (if_only at c s)) f rest e
ended_rest (after_member x p k) f rest e = ended_rest (k (member x.text p.text)) f rest e
ended_rest (at_marks [] ds k) f rest e = ended_rest (k ds) f rest e
ended_rest (at_locals ls k) f rest e = ended_rest (k ls) f rest e
ended_rest (in_locals ls k) f rest e = ended_rest (k ls) f rest e
ended_rest (may_comma k s) f rest e = ended_rest s f rest e
ended_rest _ f rest e = no_rest f rest e

end_is : (front : List Lexeme) (s : Step) (f : Fault) (rest : List Lexeme) → Comes front s [] → stops s ≡ failed f rest → (rest ≡ []) × (f ≡ grammar)
end_is front (goes s) f rest h e = ended_rest s f rest e
end_is front (expects w k) f rest h e = no_rest f rest e
end_is front (either w d q k s) f rest h e = no_rest f rest e
end_is front (refuses g back) f rest h e = absurd h

explained : (all : List Lexeme) (t : Lexeme) (f : Fault) (back xs : List Lexeme) → Explains all t f back xs → back ≡ t ∷ []
explained all t grammar back xs h = h
explained all t no_use_asm back xs h = h.0

-- what is left is what was stuck
pub rest_is : (xs : List Lexeme) (f : Fault) (rest front : List Lexeme) (last : Step) (after : List Lexeme) → PromiseStep front last → IsStuck last after f rest → rest ≡ after
rest_is xs f rest front last [] p h = let r = end_is (front ++ []) last f rest (p []) h in r.0
rest_is xs f rest front last (t ∷ ts) p h =
    let why : Moves (front ++ t ∷ ts) t (refuses f h.0) ts = subst (λ (s : Step). Moves (front ++ t ∷ ts) t s ts) h.1 (advance_reaches (front ++ t ∷ ts) last t ts (p (t ∷ ts))) in
    h.2 ∙ ap (λ (b : List Lexeme). b ++ ts) (explained (front ++ t ∷ ts) t f h.0 ts why)

front_is : (xs front after : List Lexeme) (k : ℕ) → k ≤ length xs → xs ≡ front ++ after → drop k xs ≡ after → front ≡ take k xs
front_is xs front after k le e is =
    let len : length front ≡ k = omega (arith, ap length e, length-append front after, length-drop k xs, ap length is) in
    sym (take_at front after k len) ∙ ap (take k) (sym e)

one_more : (xs front : List Lexeme) (t : Lexeme) (ts : List Lexeme) (k : ℕ) → k ≤ length xs → xs ≡ front ++ t ∷ ts → drop k xs ≡ t ∷ ts → take (k + 1) xs ≡ front ++ t ∷ []
one_more xs front t ts k le e is =
    let len : length (front ++ t ∷ []) ≡ k + 1 = omega (arith, length-append front (t ∷ []), ap length e, length-append front (t ∷ ts), ap length is, length-drop k xs) in
    ap (take (k + 1)) (e ∙ sym (append_assoc front (t ∷ []) ts)) ∙ take_at (front ++ t ∷ []) ts (k + 1) len

ending_viable : (front : List Lexeme) → Ending front → IsViable front
ending_viable front e = (e.found, e.tokens, e.whole)

no_module : (xs : List Lexeme) (f : Fault) (rest : List Lexeme) (m : ModuleTree) → run at_start xs ≡ failed f rest → ¬ IsModule m xs
no_module xs f rest m e h = let reads = module_read h in absurd cc

stuck_viable : (front : List Lexeme) (last : Step) (t : Lexeme) (f : Fault) (back : List Lexeme) → ((ys : List Lexeme) → run at_start (front ++ ys) ≡ run last ys) → advance last t ≡ refuses f back → ¬ IsViable (front ++ t ∷ [])
stuck_viable front last t f back g is v =
    let fails : run at_start ((front ++ t ∷ []) ++ v.1) ≡ failed f (back ++ v.1) = ap (run at_start) (append_assoc front (t ∷ []) v.1) ∙ g (t ∷ v.1) ∙ ap (λ s. run s v.1) is ∙ refuses_run f back v.1 in
    no_module ((front ++ t ∷ []) ++ v.1) f (back ++ v.1) v.0 fails v.2

record Place (xs : List Lexeme) (k : ℕ) (f : Fault) : Type 0 where
  viable_before : IsViable (take k xs)
  not_here : (t : Lexeme) (ts : List Lexeme) → drop k xs ≡ t ∷ ts → ¬ IsViable (take (k + 1) xs)
  why : (t : Lexeme) (ts : List Lexeme) → drop k xs ≡ t ∷ ts → (back : List Lexeme) × Explains xs t f back ts
  at_end : drop k xs ≡ [] → f ≡ grammar

place_at : (xs : List Lexeme) (k : ℕ) (f : Fault) (front : List Lexeme) (last : Step) (after : List Lexeme) → k ≤ length xs → xs ≡ front ++ after → drop k xs ≡ after → PromiseStep front last
    → ((ys : List Lexeme) → run at_start (front ++ ys) ≡ run last ys) → IsStuck last after f (drop k xs) → Place xs k f
place_at xs k f front last [] le e is p g h = record {
  viable_before = subst IsViable (front_is xs front [] k le e is) (ending_viable front (finish_step last front p));
  not_here = λ t ts there. let no : [] ≡ t ∷ ts = sym is ∙ there in absurd cc;
  why = λ t ts there. let no : [] ≡ t ∷ ts = sym is ∙ there in absurd cc;
  at_end = λ there. let r = end_is (front ++ []) last f (drop k xs) (p []) h in r.1;
}
place_at xs k f front last (u ∷ us) le e is p g h = record {
  viable_before = subst IsViable (front_is xs front (u ∷ us) k le e is) (ending_viable front (finish_step last front p));
  not_here = λ t ts there. subst (λ (y : List Lexeme). ¬ IsViable y) (sym (one_more xs front u us k le e is)) (stuck_viable front last u f h.0 g h.1);
  why = λ t ts there.
      let same : u ∷ us ≡ t ∷ ts = sym is ∙ there in
      let first : u ≡ t = cc in
      let others : us ≡ ts = cc in
      let moves : Moves xs u (refuses f h.0) us = subst (λ (s : Step). Moves xs u s us) h.1 (subst (λ (y : List Lexeme). Moves y u (advance last u) us) (sym e) (advance_reaches (front ++ u ∷ us) last u us (p (u ∷ us)))) in
      (h.0, subst (λ (y : Lexeme × List Lexeme). Explains xs y.0 f h.0 y.1) (λ i. (first i, others i)) moves);
  at_end = λ there. let no : [] ≡ u ∷ us = sym there ∙ is in absurd cc;
}

place_of_fault : (xs : List Lexeme) (k : ℕ) (f : Fault) → k ≤ length xs → run at_start xs ≡ failed f (drop k xs) → Place xs k f
place_of_fault xs k f le e =
    let w = stopped xs f (drop k xs) e in
    place_at xs k f w.front w.last w.after le w.parts (rest_is xs f (drop k xs) w.front w.last w.after w.promise w.stuck_at) w.promise w.goes_to w.stuck_at

drop_some : (xs : List Lexeme) (k : ℕ) → k < length xs → (t : Lexeme) × (ts : List Lexeme) × (drop k xs ≡ t ∷ ts)
drop_some xs k lt = some (drop k xs) refl
  where
    some : (ys : List Lexeme) → drop k xs ≡ ys → (t : Lexeme) × (ts : List Lexeme) × (drop k xs ≡ t ∷ ts)
    some [] is = absurd (omega (arith, ap length is, length-drop k xs))
    some (t ∷ ts) is = (t, ts, is)

use_other : (c : Class) (t : Lexeme) (h : Heading) → ¬ (c ≡ directive) → use_by c t h ≡ refuses no_use_asm (t ∷ [])
use_other directive t h n = absurd (n refl)
use_other _ t h n = refl

missing_use_run : (xs : List Lexeme) (k : ℕ) → IsMissingUse xs k → run at_start xs ≡ failed no_use_asm (drop k xs)
missing_use_run xs k m =
    heading_run m.stands ∙ ap (λ s. run s m.rest) (use_other m.token.class m.token m.heading m.is_other) ∙ refuses_run no_use_asm (m.token ∷ []) m.rest ∙ ap (failed no_use_asm) (sym m.there)

pub first_fault : (xs : List Lexeme) (k : ℕ) → k ≤ length xs → run at_start xs ≡ failed grammar (drop k xs) → ((j : ℕ) → j + 1 ≡ k → ¬ IsPair xs j) → IsFirstFault xs k
first_fault xs k le e single =
    let w = place_of_fault xs k grammar le e in
    record {
      within = le;
      before = w.viable_before;
      here = λ lt. let d = drop_some xs k lt in w.not_here d.0 d.1 d.2;
      whole = λ m h. no_module xs grammar (drop k xs) m e h;
      no_zero = λ j is z. single j is z.pair;
      has_use = λ m. let same = same_failure grammar no_use_asm (drop k xs) (drop k xs) (sym e ∙ missing_use_run xs k m) in let no = same.0 in absurd cc;
    }

next_drop : (xs : List Lexeme) (j : ℕ) (t : Lexeme) (ts : List Lexeme) → drop j xs ≡ t ∷ ts → drop (j + 1) xs ≡ ts
next_drop xs j t ts is = sym (drop-drop 1 j xs) ∙ ap (drop 1) is

pub negative_zero : (xs : List Lexeme) (j : ℕ) → j + 1 ≤ length xs → run at_start xs ≡ failed grammar (drop (j + 1) xs) → IsPair xs j → IsNegativeZero xs j
negative_zero xs j le e pair =
    let w = place_of_fault xs (j + 1) grammar le e in
    record {
      pair = pair;
      before = w.viable_before;
      here = subst (λ (n : ℕ). ¬ IsViable (take n xs)) (let is : (j + 1) + 1 ≡ j + 2 = omega arith in is) (w.not_here pair.zero pair.rest (next_drop xs j pair.minus (pair.zero ∷ pair.rest) pair.there));
    }

missing_use_at : (xs : List Lexeme) (k : ℕ) → Place xs k no_use_asm → (ys : List Lexeme) → drop k xs ≡ ys → IsMissingUse xs k
missing_use_at xs k w [] is = let no = w.at_end is in absurd cc
missing_use_at xs k w (t ∷ ts) is =
    let y = w.why t ts is in
    record { heading = y.1.1.0; token = t; rest = ts; there = is; stands = y.1.1.1; is_other = y.1.2; before = w.viable_before; here = w.not_here t ts is }

pub missing_use : (xs : List Lexeme) (k : ℕ) → k ≤ length xs → run at_start xs ≡ failed no_use_asm (drop k xs) → IsMissingUse xs k
missing_use xs k le e = missing_use_at xs k (place_of_fault xs k no_use_asm le e) (drop k xs) refl
