-- Where blocks end, place by place.
use Rattle.std.proofs.Common.{◌≡◌, ℕ, zero, suc, ◌+◌, ◌<◌, ◌≤◌, List, [], ◌∷◌, length, get_or, drop, map, option_map, Some, refl, sym, ap, ◌∙◌, arith}
use Rattle.std.specs.Prelude.{slice_get}
use Rattle.std.proofs.lemmas.Option.{slice_get-map, slice_get_read, get_or_from_slice_get}
use Rattle.wasm_lang.specs.Instructions.{Instruction}
use Rattle.wasm_tree.specs.declared.instr.Instr.{Instr}
use Rattle.wasm_tree.specs.Views.{instr_of}
use Rattle.wasm_run_flat.specs.declared.body.Jump.{Jump}
use Rattle.wasm_run_flat.specs.Jumps.{closing, closings, first_jump, jumps_from, jump_at}
use Rattle.wasm_run_flat.proofs.Lists.{from_here}

pub jumps_length : (is : List Instruction) (at : ℕ) → length (jumps_from at is) ≡ length is
jumps_length [] at = refl
jumps_length (i ∷ is) at = ap suc (jumps_length is (suc at))

jump_there : (is : List Instruction) (at k n : ℕ) → at + k ≡ n → k < length is → slice_get (jumps_from at is) k ≡ Some (first_jump (closings (suc n) (drop (suc k) is)))
jump_there [] at k n e h = absurd (omega arith)
jump_there (i ∷ is) at zero n e h = let e' : at ≡ n = omega arith in ap (λ n. Some (first_jump (closings (suc n) is))) e'
jump_there (i ∷ is) at (suc k) n e h = jump_there is (suc at) k n (omega arith) (omega arith)

-- .. of a whole body
jump_in : (body : List Instruction) (at : ℕ) (d : Jump) → at < length body → get_or (jumps_from 0 body) at d ≡ jump_at body at
jump_in body at d h = get_or_from_slice_get (jumps_from 0 body) at (jump_at body at) d (jump_there body 0 at at (omega arith) h)

-- .. and past its end
past_all : (body : List Instruction) (at : ℕ) → length body ≤ at → drop (suc at) body ≡ []
past_all [] at h = refl
past_all (i ∷ body) zero h = absurd (omega arith)
past_all (i ∷ body) (suc at) h = past_all body at (omega arith)

jump_past : (body : List Instruction) (at : ℕ) → length body ≤ at → jump_at body at ≡ record { past = 0; other = 0 }
jump_past body at h = ap (λ is. first_jump (closings (suc at) is)) (past_all body at h)

-- .. of an array that has them
module _ (jumps : List Jump) (code body : List Instruction) (at : ℕ) (are : jumps ≡ jumps_from 0 code) (same : code ≡ body) where
  pub jump_got : (j : Jump) → at < length jumps → j ≡ get_or jumps at j → j ≡ jump_at body at
  jump_got j h is =
      let lt : at < length code = omega (arith, ap length are, jumps_length code 0) in
      is ∙ ap (λ js. get_or js at j) are ∙ jump_in code at j lt ∙ ap (λ b. jump_at b at) same

  pub no_jump : length jumps ≤ at → record { past = 0; other = 0 } ≡ jump_at body at
  no_jump h =
      let le : length code ≤ at = omega (arith, ap length are, jumps_length code 0) in
      sym (jump_past code at le) ∙ ap (λ b. jump_at b at) same

-- ---- one instruction more, from the last one on

none_left : (code : List Instr) → drop (length code) (map instr_of code) ≡ []
none_left [] = refl
none_left (i ∷ code) = none_left code

pub none_open : (code : List Instr) (n : ℕ) → n ≡ length code → closings n (drop n (map instr_of code)) ≡ []
none_open code n e = ap (closings n) (ap (λ k. drop k (map instr_of code)) e ∙ none_left code)

pub no_jumps : (code : List Instr) (n : ℕ) → n ≡ length code → jumps_from n (drop n (map instr_of code)) ≡ []
no_jumps code n e = ap (jumps_from n) (ap (λ k. drop k (map instr_of code)) e ∙ none_left code)

code_from : (code : List Instr) (at : ℕ) (i : Instr) → at < length code → i ≡ get_or code at i → drop at (map instr_of code) ≡ instr_of i ∷ drop (suc at) (map instr_of code)
code_from code at i h is =
    from_here (map instr_of code) at (instr_of i) (slice_get-map instr_of code at ∙ ap (option_map instr_of) (slice_get_read code (length code) at i refl h is))

pub closings_from : (code : List Instr) (at next : ℕ) (i : Instr) → at < length code → suc at ≡ next → i ≡ get_or code at i
    → closing at (instr_of i) (closings next (drop next (map instr_of code))) ≡ closings at (drop at (map instr_of code))
closings_from code at next i h e is =
    ap (λ n. closing at (instr_of i) (closings n (drop n (map instr_of code)))) (sym e) ∙ sym (ap (closings at) (code_from code at i h is))

pub jumps_more : (code : List Instr) (at next : ℕ) (i : Instr) → at < length code → suc at ≡ next → i ≡ get_or code at i
    → first_jump (closings next (drop next (map instr_of code))) ∷ jumps_from next (drop next (map instr_of code)) ≡ jumps_from at (drop at (map instr_of code))
jumps_more code at next i h e is =
    ap (λ n. first_jump (closings n (drop n (map instr_of code))) ∷ jumps_from n (drop n (map instr_of code))) (sym e) ∙ sym (ap (jumps_from at) (code_from code at i h is))
