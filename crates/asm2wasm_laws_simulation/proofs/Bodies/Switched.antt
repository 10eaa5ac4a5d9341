-- Each switch is kept, short or long.
use Rattle.std.proofs.Common.{◌≡◌, ℕ, zero, suc, ◌+◌, ◌^◌, ◌<◌, ◌≤◌, Bool, true, false, ◌&&◌, List, [], ◌∷◌, ◌++◌, Some, None, ℤ, pos, refl, sym, ap, ◌∙◌, subst, arith}
use Rattle.std.proofs.lemmas.Bool.{and_parts}
use Rattle.std.specs.Prelude.{slice_get, slice_set, if◌then◌else◌}
use Rattle.sem_words.specs.declared.word.Word.{Word}
use Rattle.sem_words.specs.declared.word.Word.TheVariants.{W32}
use Rattle.sem_words.specs.declared.js_value.JsValue.{JsValue}
use Rattle.sem_words.specs.Words.{word_of}
use Rattle.wasm_lang.specs.Instructions.{local_set}
use Rattle.wasm_lang_exec.specs.Code.{Trees, ε, ◌▹◌, ◌⊕◌, block, br}
use Rattle.wasm_lang_exec.specs.Store.{Store}
use Rattle.wasm_laws_drive.specs.Drive.{Next, Branch, at}
use Rattle.wasm_laws_drive.proofs.Instructions.{block_enters}
use Rattle.wasm_laws_trees.specs.Spelled.{size}
use Rattle.asm_types.specs.declared.value_type.ValueType.TheVariants.{Signed}
use Rattle.asm_types.specs.Values.{is_between, least}
use Rattle.asm_lang.specs.Modules.{switches, Clauses, no_clauses, clauses}
use Rattle.asm_lang_valid.specs.Typing.{values, result_of, distinct, in_range, close_together}
use Rattle.asm_lang_exec.specs.Runs.{Part, and_then, gives, defined}
use Rattle.asm_lang_exec.specs.Values.{Calls}
use Rattle.asm_lang_exec.specs.Meaning.{eval, Completion, as_whole, is_case, before_case, before_default, has_case, passed_over, switch_end, exec, exec_clauses}
use Rattle.asm_laws_sound.proofs.Expressions.{signed_whole}
use Rattle.asm2wasm_translation.specs.Numbers.{first_scratch}
use Rattle.asm2wasm_translation.specs.Values.{one, value_code, plains}
use Rattle.asm2wasm_translation.specs.Values as value
use Rattle.asm2wasm_translation.specs.Bodies.{Label, breakable, clauses_count, is_short, is_dense, case_branches, case_numbers, table_branch, dispatch, first_clause, stmt_code, short_code, long_code}
use Rattle.asm2wasm_laws_run.proofs.Guarded.{get_same, get_other}
use Rattle.asm2wasm_laws_preservation.specs.Kept.{Fits, word, a_value, Surroundings}
use Rattle.asm2wasm_laws_preservation.specs.Made.{Within}
use Rattle.asm2wasm_laws_preservation.specs.Laws.{scope}
use Rattle.asm2wasm_laws_preservation.proofs.Sizes.{sizes_add}
use Rattle.asm2wasm_laws_preservation.proofs.Rooms.{second_within, reach_joins}
use Rattle.asm2wasm_laws_simulation.specs.Bodies.Followed.{on_code, Follows, Any, ends_as, KeepsEnd}
use Rattle.asm2wasm_laws_simulation.proofs.Bodies.Asked.{ClausesKept, SwitchesKept}
use Rattle.asm2wasm_laws_simulation.proofs.Bodies.Joined.{follows_bind, follows_in, follows_more, follows_then, follows_kept}
use Rattle.asm2wasm_laws_simulation.proofs.Bodies.Left.{out, out_keeps, leaves_switch}
use Rattle.asm2wasm_laws_simulation.proofs.Bodies.Scratched.{Reaches, follows_set, follows_preset, follows_any, follows_both}
use Rattle.asm2wasm_laws_simulation.proofs.Bodies.Dispatched.{chain_reaches}
use Rattle.asm2wasm_laws_simulation.proofs.Bodies.Tabled.{table_reaches}
use Rattle.asm2wasm_laws_simulation.proofs.Bodies.Blocks.{to_clause, leads, IsLed, follows_clauses}
use Rattle.asm2wasm_laws_simulation.proofs.Bodies.Numbered.{numbers}
use Rattle.asm2wasm_laws_simulation.proofs.Bodies.Long.{Passes, follows_long}

-- ---- no more clauses are passed over than there are

before_all : (z : ℤ) (cs : Clauses) → before_case z cs ≤ clauses_count cs
before_all z no_clauses = omega arith
before_all z (clauses v ss cs) = by (is_case z v) (before_all z cs)
  where
    by : (b : Bool) → before_case z cs ≤ clauses_count cs → (if b then 0 else suc (before_case z cs)) ≤ suc (clauses_count cs)
    by true h = omega arith
    by false h = omega (arith, h)

default_within : (cs : Clauses) → before_default cs ≤ clauses_count cs
default_within no_clauses = omega arith
default_within (clauses None ss cs) = omega arith
default_within (clauses (Some v) ss cs) = let h = default_within cs in omega (arith, h)

passed_all : (z : ℤ) (cs : Clauses) → passed_over z cs ≤ clauses_count cs
passed_all z cs = by (has_case z cs)
  where
    by : (b : Bool) → (if b then before_case z cs else before_default cs) ≤ clauses_count cs
    by true = before_all z cs
    by false = default_within cs

passes : (p : ℕ) → Passes p 0 p
passes zero = omega arith
passes (suc p) = omega arith

module _ (s : Surroundings) (limit bound : ℕ) (calls : Calls) (ls : List Label) (cs : Clauses) (h : in_range (values cs) ≡ true) (kept : ClausesKept s limit bound calls cs) (z : ℤ) (fits : is_between least (pos (2 ^ 31)) z ≡ true) where
  abbrev wanted : Bool
  wanted = result_of (scope s)

  abbrev t : ℕ
  t = first_scratch s.within

  abbrev number : ℕ
  number = suc (first_scratch s.within)

  t_place : first_scratch s.within + 0 ≡ t
  t_place = omega arith

  number_place : first_scratch s.within + 1 ≡ number
  number_place = omega arith

  abbrev w : Word
  w = W32 (word_of 32 z)

  abbrev does : Part Completion
  does = and_then (exec_clauses true calls (scope s) bound cs (passed_over z cs)) (λ d. gives (switch_end d))

  -- ---- a short one

  dispatches : (l : List Word) (st : Store) → slice_get l t ≡ Some w → Reaches (size (dispatch t cs)) (on_code s.target [] (dispatch t cs) l st) (λ k. Branch (passed_over z cs) (at [] l st k))
  dispatches l st got = by (is_dense (values cs)) refl
    where
      by : (b : Bool) → is_dense (values cs) ≡ b → let code = if b then table_branch t cs else case_branches t 0 cs ⊕ (br (before_default cs) ▹ ε) in
          Reaches (size code) (on_code s.target [] code l st) (λ k. Branch (passed_over z cs) (at [] l st k))
      by true dense = table_reaches s.target t z fits cs dense h l st got
      by false e =
          let n : 0 + before_case z cs ≡ before_case z cs = omega arith in
          subst (λ n. Reaches (size (case_branches t 0 cs ⊕ (br (before_default cs) ▹ ε))) (on_code s.target [] (case_branches t 0 cs ⊕ (br (before_default cs) ▹ ε)) l st) (λ k. Branch (if has_case z cs then n else before_default cs) (at [] l st k))) n
          (chain_reaches s.target t z fits (before_default cs) cs 0 h l st got)

  abbrev short : Trees
  short = short_code s.heap (scope s) ls (dispatch t cs) cs

  short_kept : Within s (one (local_set t) ⊕ (block None short ▹ ε)) → size short ≤ s.worth
      → Follows s limit (size (one (local_set t) ⊕ (block None short ▹ ε))) (on_code s.target (w ∷ []) (one (local_set t) ⊕ (block None short ▹ ε))) Any (ends_as ls wanted) does
  short_kept room few =
      let free : 0 < s.scratch = omega (arith, room) in
      let inner : Within s short = omega (arith, room) in
      let all = one (local_set t) ⊕ (block None short ▹ ε) in
      follows_more s limit Any (ends_as ls wanted) (1 + (1 + (size short + 1))) (size all) (on_code s.target (w ∷ []) all) does (omega arith)
      (follows_set s limit 0 t t_place free Any (ends_as ls wanted) (1 + (size short + 1)) w (block None short ▹ ε) does
      (follows_in s limit Any (ends_as ls wanted) 1 (size short + 1) (λ l st k. on_code s.target [] (block None short ▹ ε) (slice_set l t w) st k) (λ l st k. out s (on_code s.target [] short (slice_set l t w) st k)) does
      (λ l st k. let one : 1 + k ≡ suc k = omega arith in ap (on_code s.target [] (block None short ▹ ε) (slice_set l t w) st) one ∙ block_enters s.target None short ε (at [] (slice_set l t w) st (suc k)))
      (follows_clauses s limit bound calls ls cs (λ l. slice_set l t w) (dispatch t cs) (gives (to_clause (passed_over z cs))) kept inner few
      (follows_preset s limit 0 t t_place free (IsLed s limit bound calls ls (clauses_count cs)) (leads s limit bound calls ls (clauses_count cs)) (size (dispatch t cs)) w (on_code s.target [] (dispatch t cs)) (to_clause (passed_over z cs)) (passed_all z cs) dispatches))))

  -- ---- a long one

  abbrev long : Trees
  long = long_code s.heap (scope s) ls 0 cs

  abbrev body : Trees
  body = block None long ▹ ε

  abbrev finding : Trees
  finding = case_numbers t number 0 cs ⊕ plains (value.number (before_default cs) ∷ local_set number ∷ [])

  abbrev whole : Trees
  whole = block None finding ▹ body

  free_both : Within s whole → 1 < s.scratch
  free_both room = let e = reach_joins (case_numbers t number 0 cs) (plains (value.number (before_default cs) ∷ local_set number ∷ [])) in omega (arith, room, e)

  body_kept : 1 < s.scratch → Within s long → size long ≤ s.worth
      → Follows s limit (1 + (size long + 1)) (λ l st k. on_code s.target [] body (slice_set l number (W32 (passed_over z cs))) st k) Any (ends_as ls wanted) does
  body_kept free room few =
      let p = W32 (passed_over z cs) in
      follows_in s limit Any (ends_as ls wanted) 1 (size long + 1) (λ l st k. on_code s.target [] body (slice_set l number p) st k) (λ l st k. out s (on_code s.target [] long (slice_set l number p) st k)) does
      (λ l st k. let one : 1 + k ≡ suc k = omega arith in ap (on_code s.target [] body (slice_set l number p) st) one ∙ block_enters s.target None long ε (at [] (slice_set l number p) st (suc k)))
      (follows_bind s limit (out s) (size long) 1 (λ l st k. on_code s.target [] long (slice_set l number p) st k) Any (ends_as (breakable ∷ ls) wanted) Any (ends_as ls wanted)
      (exec_clauses true calls (scope s) bound cs (passed_over z cs)) (λ d. gives (switch_end d)) (out_keeps s ε)
      (follows_long s limit bound calls ls free cs (passed_over z cs) 0 (passed_over z cs) (passes (passed_over z cs)) kept room few)
      (λ d u. leaves_switch s limit ls wanted d))

  long_kept : Within s (one (local_set t) ⊕ whole) → size long ≤ s.worth
      → Follows s limit (size (one (local_set t) ⊕ whole)) (on_code s.target (w ∷ []) (one (local_set t) ⊕ whole)) Any (ends_as ls wanted) does
  long_kept room few =
      let inner : Within s whole = omega (arith, room) in
      let free = free_both inner in
      let some : 0 < s.scratch = omega (arith, free) in
      let n : 0 + before_case z cs ≡ before_case z cs = omega arith in
      let apart : t ≡ number → ⊥ = λ e. omega (arith, e) in
      let p = W32 (passed_over z cs) in
      let all = one (local_set t) ⊕ whole in
      follows_more s limit Any (ends_as ls wanted) (1 + (2 + size finding + (1 + (size long + 1)))) (size all) (on_code s.target (w ∷ []) all) does (omega arith)
      (follows_set s limit 0 t t_place some Any (ends_as ls wanted) (2 + size finding + (1 + (size long + 1))) w whole does
      (follows_both s limit t number t_place number_place free Any (ends_as ls wanted) (2 + size finding) (1 + (size long + 1)) (λ l st k. on_code s.target [] whole (slice_set l t w) st k) (λ l st k. on_code s.target [] body (slice_set (slice_set l t w) number p) st k) does
      (λ l st old old' got got'.
      let l' = slice_set l t w in
      let x = numbers s body t number apart z fits (before_default cs) cs 0 h l' st old' (get_same l t old w got) (get_other l t number w (λ e. apart (sym e)) ∙ got') in
      record {
        cost = suc x.cost;
        few = let le = x.few in omega (arith, le);
        by = λ k.
            let m : suc x.cost + k ≡ suc (x.cost + k) = omega arith in
            ap (on_code s.target [] whole l' st) m ∙ block_enters s.target None finding body (at [] l' st (suc (x.cost + k))) ∙ x.by k
            ∙ ap (λ n. on_code s.target [] body (slice_set l' number (W32 (if has_case z cs then n else before_default cs))) st k) n;
      })
      (follows_any s limit 0 t t_place some Any (ends_as ls wanted) (1 + (size long + 1)) w (λ l st k. on_code s.target [] body (slice_set l number p) st k) does (body_kept free (omega (arith, inner)) few))))

  -- ---- either

  abbrev rest_by : Bool → Trees
  rest_by b = one (local_set t) ⊕ (if b then block None short ▹ ε else first_clause t number cs ⊕ body)

  either_kept : (b : Bool) → Within s (rest_by b) → size (rest_by b) ≤ s.worth → Follows s limit (size (rest_by b)) (on_code s.target (w ∷ []) (rest_by b)) Any (ends_as ls wanted) does
  either_kept true room few = short_kept room (omega (arith, few))
  either_kept false room few = long_kept room (omega (arith, few))

pub switches_kept : (s : Surroundings) (limit bound : ℕ) (calls : Calls) → SwitchesKept s limit bound calls
switches_kept s limit bound calls ls own e cs fit k kept room few =
    let p = and_parts (distinct (values cs) && in_range (values cs)) (close_together (values cs)) fit in
    let range = (and_parts (distinct (values cs)) (in_range (values cs)) p.0).1 in
    let code = value_code s.heap (scope s) 0 e in
    let all = sizes_add code (rest_by s limit bound calls ls cs range kept (pos 0) refl (is_short cs)) in
    by range (second_within s code (rest_by s limit bound calls ls cs range kept (pos 0) refl (is_short cs)) room) (omega (arith, few, all))
  where
    by : in_range (values cs) ≡ true → Within s (one (local_set (first_scratch s.within)) ⊕ (if is_short cs then block None (short_code s.heap (scope s) ls (dispatch (first_scratch s.within) cs) cs) ▹ ε else first_clause (first_scratch s.within) (suc (first_scratch s.within)) cs ⊕ (block None (long_code s.heap (scope s) ls 0 cs) ▹ ε)))
        → size (one (local_set (first_scratch s.within)) ⊕ (if is_short cs then block None (short_code s.heap (scope s) ls (dispatch (first_scratch s.within) cs) cs) ▹ ε else first_clause (first_scratch s.within) (suc (first_scratch s.within)) cs ⊕ (block None (long_code s.heap (scope s) ls 0 cs) ▹ ε))) ≤ s.worth
        → KeepsEnd s limit ls (result_of (scope s)) (stmt_code s.heap (scope s) ls own (switches e cs)) (exec true calls (scope s) bound own (switches e cs))
    by range inner small =
        let code = value_code s.heap (scope s) 0 e in
        let rest = one (local_set (first_scratch s.within)) ⊕ (if is_short cs then block None (short_code s.heap (scope s) ls (dispatch (first_scratch s.within) cs) cs) ▹ ε else first_clause (first_scratch s.within) (suc (first_scratch s.within)) cs ⊕ (block None (long_code s.heap (scope s) ls 0 cs) ▹ ε)) in
        let go : JsValue → Part Completion = λ v. and_then (defined (as_whole v)) (λ z. and_then (exec_clauses true calls (scope s) bound cs (passed_over z cs)) (λ d. gives (switch_end d))) in
        subst (λ n. Follows s limit n (on_code s.target [] (code ⊕ rest)) Any (ends_as ls (result_of (scope s))) (and_then (eval true calls (scope s) e) go)) (sym (sizes_add code rest))
        (follows_then s limit (size code) (size rest) [] code rest (Fits Signed) (λ v l st k. Next (at (a_value v ++ []) l st k)) Any (ends_as ls (result_of (scope s))) (eval true calls (scope s) e) go
        (follows_kept s limit (Fits Signed) a_value code (eval true calls (scope s) e) k)
        (λ v f. let x = signed_whole v f in
        subst (λ v. Follows s limit (size rest) (on_code s.target (word v ∷ []) rest) Any (ends_as ls (result_of (scope s))) (go v)) (sym x.1)
        (either_kept s limit bound calls ls cs range kept x.0 (subst (λ v. Fits Signed v) x.1 f) (is_short cs) inner small)))
