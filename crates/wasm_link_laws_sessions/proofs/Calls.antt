-- Calls of a pair, and what the linked module does for them; and what comes of a frame.
use Rattle.std.proofs.Common.{◌≡◌, ℕ, zero, suc, ◌+◌, ◌≤◌, List, [], ◌∷◌, ◌++◌, length, Option, Some, None, refl, sym, ap, ◌∙◌, subst, arith, length-append}
use Rattle.std.specs.Prelude.{reverse}
use Rattle.std.proofs.lemmas.List.{append_assoc, length-reverse}
use Rattle.sem_words.specs.declared.word.Word.{Word}
use Rattle.session_lang.specs.Imports.{ImportAnswer, goes_on, ends, answer_import}
use Rattle.wasm_lang.specs.declared.types.ValType.{ValType}
use Rattle.wasm_lang.specs.Modules.{FunctionType, WasmModule}
use Rattle.wasm_lang_exec.specs.Code.{Trees}
use Rattle.wasm_lang_exec.specs.Store.{Store, word_of_type, zeros_of}
use Rattle.wasm_lang_exec.specs.Reductions.{Callee, an_import, a_function, and_value, top_of, below_top, enter, do_call, result_word, after_answer, Config, Code, Frame, Reduct, to, is_stuck}
use Rattle.wasm_laws_drive.specs.Drive.{Stuck, at, drive, onward}
use Rattle.wasm_laws_drive.specs.Equations as equations
use Rattle.wasm_laws_drive.specs.Equations.{at_frame}
use Rattle.wasm_laws_drive.proofs.Driving.{through_frame}
use Rattle.wasm_link_lang.specs.Pairs.{Pair}
use Rattle.wasm_link_code.specs.Trees.{moved_tree}
use Rattle.wasm_link_laws_sessions.specs.Alike.{Fine, IsAlike, IsAlikeCallee}
use Rattle.wasm_link_laws_sessions.proofs.Steps.{st, Holds, Follows}

zeros_join : (ts us : List ValType) → zeros_of (ts ++ us) ≡ zeros_of ts ++ zeros_of us
zeros_join [] us = refl
zeros_join (t ∷ ts) us = ap (λ vs. word_of_type t 0 ∷ vs) (zeros_join ts us)

many_zeros : (ts : List ValType) → length (zeros_of ts) ≡ length ts
many_zeros [] = refl
many_zeros (t ∷ ts) = ap suc (many_zeros ts)

many_top : (n : ℕ) (values top : List Word) → top_of n values ≡ Some top → length top ≡ n
many_top zero values top e = let same : [] ≡ top = cc e in ap length (sym same)
many_top (suc n) [] top e = absurd (cc e)
many_top (suc n) (v ∷ values) top e = by (top_of n values) refl e (many_top n values)
  where
    by : (o : Option (List Word)) → top_of n values ≡ o → and_value v o ≡ Some top → ((vs : List Word) → top_of n values ≡ Some vs → length vs ≡ n) → length top ≡ suc n
    by None f e further = absurd (cc e)
    by (Some vs) f e further = let same : v ∷ vs ≡ top = cc e in ap length (sym same) ∙ ap suc (further vs f)

module _ (w : Pair) (m : WasmModule) (g : ℕ) (order : List Word → List Word) (locals room : List Word) where
  abbrev k : ℕ
  k = length locals

  abbrev r : ℕ
  r = length room

  -- ---- a call, after so many reductions

  module _ (cost : ℕ) (some : 1 ≤ cost) (few : cost ≤ 6) (x : Config) (rest : List Word) (same_room : length rest ≡ length room) (values : List Word) (code : Trees) (s : Store)
      (fine : Fine w g k r code) (holds : Holds w m g order s) where
    abbrev code' : Trees
    code' = moved_tree w k code

    abbrev IsCalled : Option Callee → Type 0
    IsCalled c' = (n : ℕ) → drive m (cost + n) x (locals ++ room) (st w m g order s) ≡ equations.called m c' code' (at values (locals ++ rest) (st w m g order s) n)

    abbrev Here : Reduct → Type 0
    Here rd = Follows w m g order rd x locals room s

    gets_stuck : ((n : ℕ) → drive m (cost + n) x (locals ++ room) (st w m g order s) ≡ Stuck (st w m g order s)) → Here is_stuck
    gets_stuck e = record { cost = cost; few = few; ends = e }

    answered : (results : List ValType) (below : List Word) (a : ImportAnswer)
        → ((n : ℕ) → drive m (cost + n) x (locals ++ room) (st w m g order s) ≡ equations.after_import m a results code' (at below (locals ++ rest) (st w m g order s) n))
        → Here (after_answer a results below code locals s)
    answered results below (ends e) takes = record { cost = cost; few = few; ends = takes }
    answered results below (goes_on a) takes = record {
      cost = cost;
      some = some;
      few = few;
      config = Code (result_word results a.word ++ below) code';
      rest = rest;
      many = refl;
      room_stays = same_room;
      holds = holds;
      alike = (fine, refl);
      takes = takes;
    }

    entered : (t : FunctionType) (more extra : List ValType) (body : Trees) (below arguments : List Word) → length arguments ≡ length t.params
        → Fine w g (length t.params + length more) (length extra) body
        → ((n : ℕ) → drive m (cost + n) x (locals ++ room) (st w m g order s)
        ≡ at_frame m below (length t.results) code' (locals ++ rest)
        (onward m (moved_tree w (length t.params + length more) body) (at [] (reverse arguments ++ zeros_of (more ++ extra)) (st w m g order s) n)))
        → Here (to (Frame below (length t.results) (reverse arguments ++ zeros_of more) (Code [] body) code) locals s)
    entered t more extra body below arguments many fine_body takes =
        let inner = reverse arguments ++ zeros_of more in
        let kk = length t.params + length more in
        let a = length-append (reverse arguments) (zeros_of more) in
        let b : length (reverse arguments) ≡ length arguments = length-reverse arguments in
        let c = many_zeros more in
        let inner_many : length inner ≡ kk = omega (arith, a, b, c, many) in
        let joined : reverse arguments ++ zeros_of (more ++ extra) ≡ inner ++ zeros_of extra =
        ap (λ vs. reverse arguments ++ vs) (zeros_join more extra) ∙ sym (append_assoc (reverse arguments) (zeros_of more) (zeros_of extra)) in
        let inside : IsAlike w g (Code [] body) kk (length extra) (Code [] (moved_tree w kk body)) = (fine_body, refl) in
        record {
          cost = cost;
          some = some;
          few = few;
          config = Frame below (length t.results) (inner ++ zeros_of extra) (Code [] (moved_tree w kk body)) code';
          rest = rest;
          many = refl;
          room_stays = same_room;
          holds = holds;
          alike = (
            fine,
            zeros_of extra,
            Code [] (moved_tree w kk body),
            subst (λ j. IsAlike w g (Code [] body) j (length (zeros_of extra)) (Code [] (moved_tree w kk body))) (sym inner_many)
                (subst (λ q. IsAlike w g (Code [] body) kk q (Code [] (moved_tree w kk body))) (sym (many_zeros extra)) inside),
            refl,
          );
          takes = λ n.
              takes n
              ∙ ap (λ ls. at_frame m below (length t.results) code' (locals ++ rest) (onward m (moved_tree w kk body) (at [] ls (st w m g order s) n))) joined
              ∙ sym (through_frame m n below (length t.results) (inner ++ zeros_of extra) (Code [] (moved_tree w kk body)) code' (locals ++ rest) (st w m g order s));
        }

    pub calls : (c c' : Option Callee) → IsAlikeCallee w g c c' → IsCalled c' → Here (do_call c values code locals s)
    calls None c' alike takes = gets_stuck (λ n. takes n ∙ ap (λ c. equations.called m c code' (at values (locals ++ rest) (st w m g order s) n)) alike)
    calls (Some (an_import name t)) c' alike takes = by (top_of (length t.params) values) refl
      where
        by : (o : Option (List Word)) → top_of (length t.params) values ≡ o → Follows w m g order (enter (Some (an_import name t)) o (below_top (length t.params) values) code locals s) x locals room s
        by None e =
            gets_stuck
            (λ n. takes n ∙ ap (λ c. equations.called m c code' (at values (locals ++ rest) (st w m g order s) n)) alike
            ∙ ap (λ o. equations.entered m (Some (an_import name t)) o code' (at (below_top (length t.params) values) (locals ++ rest) (st w m g order s) n)) e)
        by (Some arguments) e =
            answered t.results (below_top (length t.params) values) (answer_import name (reverse arguments) s.replies)
            (λ n. takes n ∙ ap (λ c. equations.called m c code' (at values (locals ++ rest) (st w m g order s) n)) alike
            ∙ ap (λ o. equations.entered m (Some (an_import name t)) o code' (at (below_top (length t.params) values) (locals ++ rest) (st w m g order s) n)) e)
    calls (Some (a_function t more body)) c' alike takes = by (top_of (length t.params) values) refl
      where
        by : (o : Option (List Word)) → top_of (length t.params) values ≡ o → Follows w m g order (enter (Some (a_function t more body)) o (below_top (length t.params) values) code locals s) x locals room s
        by None e =
            gets_stuck
            (λ n. takes n ∙ ap (λ c. equations.called m c code' (at values (locals ++ rest) (st w m g order s) n)) alike.2
            ∙ ap (λ o. equations.entered m (Some (a_function t (more ++ alike.0) (moved_tree w (length t.params + length more) body))) o code'
            (at (below_top (length t.params) values) (locals ++ rest) (st w m g order s) n)) e)
        by (Some arguments) e =
            entered t more alike.0 body (below_top (length t.params) values) arguments (many_top (length t.params) values arguments e) alike.1
            (λ n. takes n ∙ ap (λ c. equations.called m c code' (at values (locals ++ rest) (st w m g order s) n)) alike.2
            ∙ ap (λ o. equations.entered m (Some (a_function t (more ++ alike.0) (moved_tree w (length t.params + length more) body))) o code'
            (at (below_top (length t.params) values) (locals ++ rest) (st w m g order s) n)) e)
