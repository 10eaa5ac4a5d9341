-- So many reductions of a pair, and those of the module that follow them.
use Rattle.std.proofs.Common.{◌≡◌, ℕ, zero, suc, ◌+◌, ◌-◌, ◌*◌, ◌<◌, ◌≤◌, List, ◌++◌, length, refl, sym, ap, ◌∙◌, subst, arith, length-append}
use Rattle.sem_words.specs.declared.word.Word.{Word}
use Rattle.wasm_lang.specs.Modules.{WasmModule}
use Rattle.wasm_lang_exec.specs.Store.{Store}
use Rattle.wasm_lang_exec.specs.Reductions as alone
use Rattle.wasm_lang_exec.specs.Reductions.{Config, Reduct, to, is_values, branches, returns, stops, is_stuck}
use Rattle.wasm_lang_exec.specs.Session.{Run, finished, spent, over, with_none, with_one}
use Rattle.wasm_laws_drive.specs.Drive.{State, Outcome, Next, Branch, Leave, Ended, Stuck, Spent, at, halted, drive}
use Rattle.wasm_laws_drive.specs.Laws.{Within, Adds, run_of}
use Rattle.wasm_laws_drive.proofs.Counting.{no_more_are_left, more_only_add}
use Rattle.wasm_link_lang.specs.Pairs.{Pair}
use Rattle.wasm_link_lang.specs.Reductions.{reduce}
use Rattle.wasm_link_lang.specs.Session.{run}
use Rattle.wasm_link_laws_sessions.specs.Alike.{store_of, IsAlike}
use Rattle.wasm_link_laws_sessions.specs.Follows.{Holds, Follows}

-- ---- what comes after one reduction at least isn't values before it

-- fewer reductions are left than were given
abbrev IsLess : ℕ → Outcome → Type 0
IsLess n (Next t) = t.left < n
IsLess n o = Unit {0}

less : (n : ℕ) (o : Outcome) → 1 ≤ n → Within 0 o → IsLess n o
less n (Next t) some h = omega (arith, some, h)
less n (Branch j t) some h = tt
less n (Leave t) some h = tt
less n (Ended e s) some h = tt
less n (Stuck s) some h = tt
less n (Spent s) some h = tt

not_values : (m : WasmModule) (c : Config) (ls : List Word) (s : Store) (n : ℕ) (o : Outcome) → drive m n c ls s ≡ o → IsLess n o → (t : State) → drive m 0 c ls s ≡ Next t → ⊥
not_values m c ls s n o is lower t h =
    let added : Adds n (Next t) (drive m (0 + n) c ls s) = subst (λ x. Adds n x (drive m (0 + n) c ls s)) h (more_only_add m 0 n c ls s) in
    let z : n ≡ 0 + n = omega arith in
    let same : o ≡ Next (record t { left = t.left + n }) = sym is ∙ ap (λ j. drive m j c ls s) z ∙ added in
    let wrong : t.left + n < n = subst (IsLess n) same lower in omega (arith, wrong)

halts : (r : Reduct) (ls : List Word) (s : Store) → ((t : State) → halted r ls s ≡ Next t → ⊥) → halted r ls s ≡ Spent s
halts (is_values vs) ls s never = absurd (never (at vs ls s 0) refl)
halts (to c l s1) ls s never = refl
halts (branches j vs) ls s never = refl
halts (returns vs) ls s never = refl
halts (stops e s1) ls s never = refl
halts is_stuck ls s never = refl

module _ (w : Pair) (m : WasmModule) (g : ℕ) (order : List Word → List Word)
    (follows : (c : Config) (locals room : List Word) (s : Store) (c' : Config) → IsAlike w g c (length locals) (length room) c' → Holds w m g order s
    → Follows w m g order (reduce w c locals s) c' locals room s) where
  abbrev pub st : Store → Store
  st s = store_of w order s

  -- what some reductions of the module come to, where n of the pair come to this
  abbrev pub Ran : Run → ℕ → Config → List Word → Store → Type 0
  Ran (finished vs s1 left) n x ls s =
      (cost : ℕ) × (n ≤ cost + left) × (cost + 6 * left ≤ 6 * n) × (ls1 : List Word) × (length ls1 ≡ length ls) × Holds w m g order s1
      × ((k : ℕ) → drive m (cost + k) x ls (st s) ≡ Next (at vs ls1 (st s1) k))
  Ran (over e s1) n x ls s = (cost : ℕ) × (cost ≤ 6 * n) × ((k : ℕ) → drive m (cost + k) x ls (st s) ≡ Ended e (st s1))
  Ran (spent s1) n x ls s = (cost : ℕ) × (n ≤ cost) × (cost ≤ 6 * n) × (run_of (drive m cost x ls (st s)) ≡ spent (st s1))

  -- after some reductions that one of the pair takes
  ran_on : (r : Run) (n : ℕ) (x x1 : Config) (ls ls1 : List Word) (s s1 : Store) (cost : ℕ) → 1 ≤ cost → cost ≤ 6 → length ls1 ≡ length ls
      → ((k : ℕ) → drive m (cost + k) x ls (st s) ≡ drive m k x1 ls1 (st s1)) → Ran r n x1 ls1 s1 → Ran r (suc n) x ls s
  ran_on (finished vs s2 left) n x x1 ls ls1 s s1 cost some few many takes it =
      let a = it.1 in
      let b = it.2 in (
        cost + it.0,
        omega (arith, some, a),
        omega (arith, few, b),
        it.3,
        it.4 ∙ many,
        it.5,
        λ k. ap (λ j. drive m j x ls (st s)) (turned it.0 k) ∙ takes (it.0 + k) ∙ it.6 k,
      )
    where
      turned : (a k : ℕ) → cost + a + k ≡ cost + (a + k)
      turned a k = omega arith
  ran_on (over e s2) n x x1 ls ls1 s s1 cost some few many takes it =
      let a = it.1 in (cost + it.0, omega (arith, few, a), λ k. ap (λ j. drive m j x ls (st s)) (turned it.0 k) ∙ takes (it.0 + k) ∙ it.2 k)
    where
      turned : (a k : ℕ) → cost + a + k ≡ cost + (a + k)
      turned a k = omega arith
  ran_on (spent s2) n x x1 ls ls1 s s1 cost some few many takes it =
      let a = it.1 in
      let b = it.2 in (cost + it.0, omega (arith, some, a), omega (arith, few, b), ap run_of (takes it.0) ∙ it.3)

  -- ---- no reduction

  no_cost : (n : ℕ) → n ≡ 0 + n
  no_cost n = omega arith

  none_spent : (x : Config) (ls : List Word) (s : Store) → ((t : State) → drive m 0 x ls (st s) ≡ Next t → ⊥) → Ran (spent s) 0 x ls s
  none_spent x ls s never = (0, omega arith, omega arith, ap run_of (halts (alone.reduce m x ls (st s)) ls (st s) never))

  ran_none : (r : Reduct) (x : Config) (locals room : List Word) (s : Store) → Holds w m g order s → Follows w m g order r x locals room s → Ran (with_none r s) 0 x (locals ++ room) s
  ran_none (is_values vs) x locals room s holds it =
      (0, omega arith, omega arith, locals ++ room, refl, holds, λ k. ap (λ j. drive m j x (locals ++ room) (st s)) (sym (no_cost k)) ∙ it k)
  ran_none (to c1 l1 s1) x locals room s holds it =
      let ls = locals ++ room in
      let n = it.cost in
      let z : n ≡ n + 0 = omega arith in
      let o = drive m 0 it.config (l1 ++ it.rest) (st s1) in
      none_spent x ls s (not_values m x ls (st s) n o (ap (λ j. drive m j x ls (st s)) z ∙ it.takes 0) (less n o it.some (no_more_are_left m 0 it.config (l1 ++ it.rest) (st s1))))
  ran_none (branches j vs) x locals room s holds it =
      none_spent x (locals ++ room) s (not_values m x (locals ++ room) (st s) 1 (Branch j (at vs (locals ++ room) (st s) 0)) (it 0) tt)
  ran_none (returns vs) x locals room s holds it =
      none_spent x (locals ++ room) s (not_values m x (locals ++ room) (st s) 1 (Leave (at vs (locals ++ room) (st s) 0)) (it 0) tt)
  ran_none (stops e s1) x locals room s holds it =
      let ls = locals ++ room in none_spent x ls s (not_values m x ls (st s) (it.cost + 0) (Ended e (st s1)) (it.ends 0) tt)
  ran_none is_stuck x locals room s holds it =
      let ls = locals ++ room in none_spent x ls s (not_values m x ls (st s) (it.cost + 0) (Stuck (st s)) (it.ends 0) tt)

  -- ---- one more

  abbrev Further : ℕ → Type 0
  Further n =
      (c : Config) (locals room : List Word) (s : Store) (x : Config) → IsAlike w g c (length locals) (length room) x → Holds w m g order s → Ran (run w n c locals s) n x (locals ++ room) s

  ran_one : (n : ℕ) → Further n → (r : Reduct) (x : Config) (locals room : List Word) (s : Store) → Holds w m g order s → Follows w m g order r x locals room s
      → Ran (with_one (run w n) n r s) (suc n) x (locals ++ room) s
  ran_one n further (is_values vs) x locals room s holds it =
      (0, omega arith, omega arith, locals ++ room, refl, holds, λ k. ap (λ j. drive m j x (locals ++ room) (st s)) (sym (no_cost k)) ∙ it k)
  ran_one n further (to c1 l1 s1) x locals room s holds it =
      let many = it.many in
      let stays = it.room_stays in
      let a = length-append l1 it.rest in
      let b = length-append locals room in
      let alike = subst (λ j. IsAlike w g c1 j (length it.rest) it.config) (sym it.many) (subst (λ q. IsAlike w g c1 (length locals) q it.config) (sym it.room_stays) it.alike) in
      ran_on (run w n c1 l1 s1) n x it.config (locals ++ room) (l1 ++ it.rest) s s1 it.cost it.some it.few (omega (arith, many, stays, a, b)) it.takes
      (further c1 l1 it.rest s1 it.config alike it.holds)
  ran_one n further (branches j vs) x locals room s holds it = (suc n, omega arith, omega arith, ap run_of (it n))
  ran_one n further (returns vs) x locals room s holds it = (suc n, omega arith, omega arith, ap run_of (it n))
  ran_one n further (stops e s1) x locals room s holds it = let few = it.few in (it.cost, omega (arith, few), λ k. it.ends k)
  ran_one n further is_stuck x locals room s holds it =
      let few = it.few in (it.cost + (suc n - it.cost), omega arith, omega (arith, few), ap run_of (it.ends (suc n - it.cost)))

  pub ran : (n : ℕ) → Further n
  ran zero c locals room s x alike holds = ran_none (reduce w c locals s) x locals room s holds (follows c locals room s x alike holds)
  ran (suc n) c locals room s x alike holds = ran_one n (ran n) (reduce w c locals s) x locals room s holds (follows c locals room s x alike holds)
