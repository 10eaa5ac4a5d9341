-- The operation at an address, and what several steps lead to.
use Rattle.std.proofs.Common.{◌≡◌, ℕ, zero, suc, ◌+◌, List, [], ◌∷◌, ◌++◌, length, reverse, Some, refl, sym, ap, ◌∙◌, arith, append_assoc}
use Rattle.std.specs.Prelude.{slice_get}
use Rattle.std.proofs.lemmas.List.{reverse-append, length-reverse}
use Rattle.asm_lang_exec.specs.Runs.{Place}
use Rattle.asm_run_code.specs.declared.op.Op.{Op}
use Rattle.asm_run_code.specs.Machine.{Codes, State, Came, going, back, halts, unpaid, lost, does, does_one, step_in, step, and_on, followed, Leads}
use Rattle.asm_run_laws.specs.Frames.{Setting, Frame, IsFrame, Ends, state}

-- ---- steps

same_state : (s t : State) → going s ≡ going t → s ≡ t
same_state s t h = cc h

pub followed_on : (j k : ℕ) (c : Codes) (s t : State) → followed j c s ≡ going t → followed (j + k) c s ≡ followed k c t
unfolding followed
followed_on zero k c s t h = let e : 0 + k ≡ k = omega arith in ap (λ n. followed n c s) e ∙ ap (followed k c) (same_state s t h)
followed_on (suc j) k c s t h = let e : suc j + k ≡ suc (j + k) = omega arith in ap (λ n. followed n c s) e ∙ by (followed_on j k c) (step c s) h
  where
    by : ((u t : State) → followed j c u ≡ going t → followed (j + k) c u ≡ followed k c t) → (r : Came) → and_on (followed j c) r ≡ going t → and_on (followed (j + k) c) r ≡ followed k c t
    by again (going u) h = again u t h
    by again (back w u) h = absurd (cc h)
    by again (halts e u) h = absurd (cc h)
    by again (unpaid u) h = absurd (cc h)
    by again lost h = absurd (cc h)

pub leads_on : (c : Codes) (s t : State) (r : Came) → Leads c s (going t) → Leads c t r → Leads c s r
leads_on c s t r a b = (a.0 + b.0, followed_on a.0 b.0 c s t a.1 ∙ b.1)

pub leads_here : (c : Codes) (s : State) → Leads c s (going s)
unfolding followed
leads_here c s = (0, refl)

pub leads_once : (c : Codes) (s : State) (r : Came) → step c s ≡ r → Leads c s r
unfolding followed
leads_once c s r h = (1, ap (and_on (followed 0 c)) h ∙ by r)
  where
    by : (r : Came) → and_on (followed 0 c) r ≡ r
    by (going u) = refl
    by (back w u) = refl
    by (halts e u) = refl
    by (unpaid u) = refl
    by lost = refl

-- ---- operations

behind : {A : Type 0} → (xs ys : List A) (y : A) → slice_get (xs ++ y ∷ ys) (length xs) ≡ Some y
behind [] ys y = refl
behind (x ∷ xs) ys y = behind xs ys y

at_address : (front rest : List Op) (op : Op) → slice_get (reverse (front ++ op ∷ rest)) (length rest) ≡ Some op
at_address front rest op =
    ap (λ ops. slice_get ops (length rest)) (reverse-append front (op ∷ rest) ∙ ap (λ ops. ops ++ reverse front) (reverse-append (op ∷ []) rest) ∙ append_assoc (reverse rest) (op ∷ []) (reverse front))
    ∙ ap (slice_get (reverse rest ++ op ∷ reverse front)) (sym (length-reverse rest))
    ∙ behind (reverse rest) (reverse front) op

pub fetched : (s : Setting) (x : Frame) → IsFrame s x → (op : Op) (rest : List Op) (ws : List ℕ) (p : Place) → Ends x.whole (op ∷ rest)
    → step s.codes (state x (length (op ∷ rest)) ws p) ≡ does s.codes op (state x (length rest) ws p)
unfolding step
fetched s x f op rest ws p e =
    ap (λ o. step_in s.codes o (length (op ∷ rest)) (state x (length (op ∷ rest)) ws p)) f.found
    ∙ ap (λ o. does_one s.codes o (state x (length rest) ws p)) (ap (λ ops. slice_get ops (length rest)) (f.stored ∙ ap reverse (sym e.1)) ∙ at_address e.0 rest op)
