-- Blocks, loops and ifs, by what the code of each step leaves.
use Rattle.std.proofs.Common.{◌≡◌, ◌≤◌, ℕ, ◌+◌, Bool, List, [], ◌∷◌, ◌++◌, length, drop, Option, Some, None, refl, sym, ap, subst, ◌∙◌}
use Rattle.std.specs.Prelude.{slice_get, if◌then◌else◌}
use Rattle.wasm_lang.specs.declared.types.ValType.{ValType}
use Rattle.wasm_lang.specs.Instructions as flat
use Rattle.wasm_lang.specs.Instructions.{Instruction}
use Rattle.wasm_lang_valid.specs.Typing.{Context, listed}
use Rattle.wasm_run_flat.specs.Jumps.{past_end, other_arm}
use Rattle.asm_lang.specs.Modules.{Expr, Stmt, breaks}
use Rattle.wasm2js_translation.specs.Helpers.{block_of}
use Rattle.wasm2js_translation.specs.Actions.{under, low}
use Rattle.wasm2js_translation.specs.Known.{Known, into_block}
use Rattle.wasm2js_translation.specs.Bodies.{Aim, past, again, labels_round, under_label, endless, chosen, written_but, asked}
use Rattle.wasm2js_operands.specs.Operands.{over}
use Rattle.wasm2js_bodies.specs.Walks.{IsInside, GoesOn, IsOver}
use Rattle.wasm2js_build.specs.Growing.{State, Held, nothing_held, late_at}
use Rattle.wasm2js_bodies.proofs.Steps.{all_written}
use Rattle.wasm2js_bodies.proofs.Blocks.{block_step, loop_step, if_step}
use Rattle.wasm2js_bodies.proofs.Lists.{all_under, left_under}

abbrev held_in : State → Held
held_in q = record { waits = q.waits; known = q.known }

abbrev knowing : List Known → Held
knowing ks = record { waits = []; known = ks }

module _ (bytes cells : ℕ) (c : Context) (body : List Instruction) (at : ℕ) (ls : List Aim) (b : ℕ) (r : Option ValType) where
  moved : (place first m n : ℕ) (reached : Bool) (ms : List Aim) (aim to : Aim) (inner : List Stmt) (empty : State) (ks : List Known) → IsOver bytes cells c body first reached (aim ∷ ms) m [] (held_in empty) empty.told inner
      → first ≡ place → aim ≡ to → ms ≡ ls → m ≡ n → empty ≡ late_at [] [] ks → IsOver bytes cells c body place reached (to ∷ ls) n [] (knowing ks) [] inner
  moved place first m n reached ms aim to inner empty ks o e1 e2 e3 e4 e5 =
      subst (λ (p : ℕ). IsOver bytes cells c body p reached (to ∷ ls) n [] (knowing ks) [] inner) e1
      (subst (λ (a : Aim). IsOver bytes cells c body first reached (a ∷ ls) n [] (knowing ks) [] inner) e2
      (subst (λ (ms : List Aim). IsOver bytes cells c body first reached (aim ∷ ms) n [] (knowing ks) [] inner) e3
      (subst (λ (d : ℕ). IsOver bytes cells c body first reached (aim ∷ ms) d [] (knowing ks) [] inner) e4
      (subst (λ (q : State). IsOver bytes cells c body first reached (aim ∷ ms) m [] (held_in q) q.told inner) e5 o))))

  -- the operands xs as the block is opened, ys as it ends and zs after it
  pub block_done : (first place n : ℕ) (reached : Bool) (ms : List Aim) (aim : Aim) (xs ys zs : List ValType) (ds es : Held) (before mid after inner : List Stmt) (empty : State)
      → IsInside body at → mid ≡ before ++ all_written ds → es ≡ nothing_held → slice_get body at ≡ Some (flat.block r) → b ≤ length xs → n ≡ length xs
      → first ≡ at + 1 → place ≡ past_end body at → aim ≡ past n r → empty ≡ late_at [] [] (into_block ds.known)
      → IsOver bytes cells c body first reached (aim ∷ ls) n [] (held_in empty) empty.told inner
      → ys ≡ xs → ms ≡ ls → over b zs ≡ listed r ++ over b ys
      → after ≡ mid ++ under_label (labels_round ms) (block_of inner) ∷ []
      → GoesOn bytes cells c body at place ls b (over b xs) (over b zs) ds es before after
  block_done first place n reached ms aim xs ys zs ds es before mid after inner empty s w waits here h count begins ends aimed none o same outer gives made =
      subst (λ (p : ℕ). GoesOn bytes cells c body at p ls b (over b xs) (over b zs) ds es before after) (sym ends)
      (block_step bytes cells c body at ls b n r (over b xs) (over b zs) ds es before mid after inner s w waits here (count ∙ all_under b xs h)
      (gives ∙ ap (λ (vs : List ValType). listed r ++ over b vs) same) reached
      (moved (at + 1) first n n reached ls aim (past n r) inner empty (into_block ds.known) o begins aimed refl refl none)
      (made ∙ ap (λ (ks : List Aim). mid ++ under_label (labels_round ks) (block_of inner) ∷ []) outer))

  pub loop_done : (first place n : ℕ) (reached : Bool) (ms : List Aim) (aim : Aim) (xs ys zs : List ValType) (ds es : Held) (before mid after inner : List Stmt) (empty : State)
      → IsInside body at → mid ≡ before ++ all_written ds → es ≡ nothing_held → slice_get body at ≡ Some (flat.loop r) → b ≤ length xs → n ≡ length xs
      → first ≡ at + 1 → place ≡ past_end body at → aim ≡ again n → empty ≡ late_at [] [] []
      → IsOver bytes cells c body first reached (aim ∷ ls) n [] (held_in empty) empty.told inner
      → ys ≡ xs → ms ≡ ls → over b zs ≡ listed r ++ over b ys
      → after ≡ mid ++ under_label (labels_round ms) (endless (inner ++ (if reached then breaks None ∷ [] else []))) ∷ []
      → GoesOn bytes cells c body at place ls b (over b xs) (over b zs) ds es before after
  loop_done first place n reached ms aim xs ys zs ds es before mid after inner empty s w waits here h count begins ends aimed none o same outer gives made =
      subst (λ (p : ℕ). GoesOn bytes cells c body at p ls b (over b xs) (over b zs) ds es before after) (sym ends)
      (loop_step bytes cells c body at ls b n r (over b xs) (over b zs) ds es before mid after inner s w waits here (count ∙ all_under b xs h)
      (gives ∙ ap (λ (vs : List ValType). listed r ++ over b vs) same) reached
      (moved (at + 1) first n n reached ls aim (again n) inner empty [] o begins aimed refl refl none)
      (made ∙ ap (λ (ks : List Aim). mid ++ under_label (labels_round ks) (endless (inner ++ (if reached then breaks None ∷ [] else []))) ∷ []) outer))

  -- the operands ws as the if is reached, xs without the topmost one, ys and vs as the arms end and zs after it
  pub if_done : (first second place n m : ℕ) (reached also : Bool) (ks ms : List Aim) (aim : Aim) (ws xs ys vs zs : List ValType) (ds es : Held) (before mid after inner more : List Stmt) (empty other : State) (test : Expr)
      → IsInside body at → mid ≡ before ++ written_but (low (under 1 b (over b ws))) ds.waits → es ≡ nothing_held → slice_get body at ≡ Some (flat.if_block r) → b ≤ length xs → over b xs ≡ drop 1 (over b ws)
      → n ≡ length xs → m ≡ length ys
      → first ≡ at + 1 → second ≡ other_arm body at → place ≡ past_end body at → aim ≡ past n r → empty ≡ late_at [] [] (into_block ds.known) → other ≡ late_at [] [] []
      → IsOver bytes cells c body first reached (aim ∷ ls) n [] (held_in empty) empty.told inner → ys ≡ xs → ks ≡ ls
      → IsOver bytes cells c body second also (aim ∷ ks) m [] (held_in other) other.told more → vs ≡ ys → ms ≡ ks
      → over b zs ≡ listed r ++ over b vs
      → test ≡ asked (under 1 b (over b ws)) ds.waits
      → after ≡ mid ++ under_label (labels_round ms) (chosen test inner more) ∷ []
      → GoesOn bytes cells c body at place ls b (over b ws) (over b zs) ds es before after
  if_done first second place n m reached also ks ms aim ws xs ys vs zs ds es before mid after inner more empty other test s w waits here h left n-is m-is begins turns ends aimed none nothing o same outer p alike around gives asks made =
      let m-n : m ≡ n = m-is ∙ ap length same ∙ sym n-is in
      subst (λ (q : ℕ). GoesOn bytes cells c body at q ls b (over b ws) (over b zs) ds es before after) (sym ends)
      (if_step bytes cells c body at ls b n r (over b ws) (over b zs) ds es before mid after inner more s w waits here (n-is ∙ left_under b ws xs h left)
      (gives ∙ ap (λ (us : List ValType). listed r ++ over b us) (alike ∙ same) ∙ ap (λ (us : List ValType). listed r ++ us) left) reached also
      (moved (at + 1) first n n reached ls aim (past n r) inner empty (into_block ds.known) o begins aimed refl refl none)
      (moved (other_arm body at) second m n also ks aim (past n r) more other [] p turns aimed outer m-n nothing)
      (made ∙ ap (λ (js : List Aim). mid ++ under_label (labels_round js) (chosen test inner more) ∷ []) (around ∙ outer)
      ∙ ap (λ (e : Expr). mid ++ under_label (labels_round ls) (chosen e inner more) ∷ []) asks))
