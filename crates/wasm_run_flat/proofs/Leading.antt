-- Where blocks end is where the levels outside them are read.
use Rattle.std.proofs.Common.{◌≡◌, ℕ, suc, List, [], ◌∷◌, drop, Option, Some, None, refl, ap, subst}
use Rattle.wasm_lang.specs.Instructions as flat
use Rattle.wasm_lang.specs.Instructions.{Instruction}
use Rattle.wasm_lang_exec.specs.Code.{Tree, unreachable, block, loop, if_block, br, br_if, br_table, return, call, call_indirect, plain, Trees, one}
use Rattle.wasm_run_flat.specs.declared.body.Jump.{Jump}
use Rattle.wasm_run_flat.specs.Reading.{Level, to_end, to_else, code_of, second_of, with_single, with_block, with_if, with_else, with_end, in_front, read}
use Rattle.wasm_run_flat.specs.Jumps.{closing, closings, first_jump, tail_of}
use Rattle.wasm_run_flat.specs.Places.{put_first}
use Rattle.wasm_run_flat.proofs.Lists.{further}

module _ (body : List Instruction) where
  -- past each level's end the outer ones are read, and at its second arm that arm first
  abbrev pub Lead : List Level → List Jump → Type 0
  Lead [] [] = Unit {0}
  Lead (l ∷ ls) (j ∷ js) = (read (drop j.past body) ≡ Some ls) × (read (drop j.other body) ≡ Some (to_end (second_of l) ∷ ls)) × Lead ls js
  Lead ls js = ⊥

  abbrev pub LeadIfRead : Option (List Level) → List Jump → Type 0
  LeadIfRead None js = Unit {0}
  LeadIfRead (Some ls) js = Lead ls js

  lead_put : (xs : Trees) (ls : List Level) (js : List Jump) → Lead ls js → Lead (put_first xs ls) js
  lead_put xs [] js h = h
  lead_put xs (to_end code ∷ ls) [] h = h
  lead_put xs (to_end code ∷ ls) (j ∷ js) h = h
  lead_put xs (to_else code second ∷ ls) [] h = h
  lead_put xs (to_else code second ∷ ls) (j ∷ js) h = h

  lead_single : (x : Tree) (r : Option (List Level)) (js : List Jump) → LeadIfRead r js → LeadIfRead (with_single (Some x) r) js
  lead_single x None js h = tt
  lead_single x (Some []) js h = tt
  lead_single x (Some (l ∷ ls)) js h = lead_put (one x) (l ∷ ls) js h

  lead_block : (block_of : Trees → Tree) (r : Option (List Level)) (js : List Jump)
      → LeadIfRead r js → LeadIfRead (with_block block_of r) (tail_of js)
  lead_block block_of None js h = tt
  lead_block block_of (Some []) js h = tt
  lead_block block_of (Some (to_else code second ∷ ls)) js h = tt
  lead_block block_of (Some (to_end code ∷ [])) js h = tt
  lead_block block_of (Some (to_end code ∷ l ∷ ls)) [] h = absurd h
  lead_block block_of (Some (to_end code ∷ l ∷ ls)) (j ∷ js) h = lead_put (one (block_of code)) (l ∷ ls) js h.2

  lead_if : (if_of : Trees → Trees → Tree) (r : Option (List Level)) (js : List Jump)
      → LeadIfRead r js → LeadIfRead (with_if if_of r) (tail_of js)
  lead_if if_of None js h = tt
  lead_if if_of (Some []) js h = tt
  lead_if if_of (Some (first ∷ [])) js h = tt
  lead_if if_of (Some (first ∷ l ∷ ls)) [] h = absurd h
  lead_if if_of (Some (first ∷ l ∷ ls)) (j ∷ js) h = lead_put (one (if_of (code_of first) (second_of first))) (l ∷ ls) js h.2

  lead_else : (at : ℕ) (r : Option (List Level)) (js : List Jump) → read (drop (suc at) body) ≡ r → LeadIfRead r js → LeadIfRead (with_else r) (closing at flat.else_mark js)
  lead_else at None js here h = tt
  lead_else at (Some []) js here h = tt
  lead_else at (Some (to_else code second ∷ ls)) js here h = tt
  lead_else at (Some (to_end second ∷ ls)) [] here h = absurd h
  lead_else at (Some (to_end second ∷ ls)) (j ∷ js) here h = (h.0, here, h.2)

  lead_end : (at : ℕ) (r : Option (List Level)) (js : List Jump) → read (drop (suc at) body) ≡ r → read (drop at body) ≡ with_end r → LeadIfRead r js
      → LeadIfRead (with_end r) (closing at flat.end_mark js)
  lead_end at None js past here h = tt
  lead_end at (Some ls) js past here h = (past, here, h)

  lead_more : (i : Instruction) (at : ℕ) (r : Option (List Level)) (js : List Jump) → read (drop (suc at) body) ≡ r → read (drop at body) ≡ in_front i r → LeadIfRead r js
      → LeadIfRead (in_front i r) (closing at i js)
  lead_more flat.unreachable at r js past here h = lead_single unreachable r js h
  lead_more (flat.block s) at r js past here h = lead_block (block s) r js h
  lead_more (flat.loop s) at r js past here h = lead_block (loop s) r js h
  lead_more (flat.if_block s) at r js past here h = lead_if (if_block s) r js h
  lead_more flat.else_mark at r js past here h = lead_else at r js past h
  lead_more flat.end_mark at r js past here h = lead_end at r js past here h
  lead_more (flat.br l) at r js past here h = lead_single (br l) r js h
  lead_more (flat.br_if l) at r js past here h = lead_single (br_if l) r js h
  lead_more (flat.br_table ls l) at r js past here h = lead_single (br_table ls l) r js h
  lead_more flat.return at r js past here h = lead_single return r js h
  lead_more (flat.call f) at r js past here h = lead_single (call f) r js h
  lead_more (flat.call_indirect t) at r js past here h = lead_single (call_indirect t) r js h
  lead_more (flat.plain p) at r js past here h = lead_single (plain p) r js h

  pub leads : (is : List Instruction) (at : ℕ) → drop at body ≡ is → LeadIfRead (read is) (closings at is)
  leads [] at h = tt
  leads (i ∷ is) at h =
      let next = further body at i is h in
      lead_more i at (read is) (closings (suc at) is) (ap read next) (ap read h) (leads is (suc at) next)

  -- .. at a place where levels are read
  pub leads_at : (at : ℕ) (ls : List Level) → read (drop at body) ≡ Some ls → Lead ls (closings at (drop at body))
  leads_at at ls h = subst (λ r. LeadIfRead r (closings at (drop at body))) h (leads (drop at body) at refl)

  pub past_first : (l : Level) (ls : List Level) (js : List Jump) → Lead (l ∷ ls) js → read (drop (first_jump js).past body) ≡ Some ls
  past_first l ls [] h = absurd h
  past_first l ls (j ∷ js) h = h.0

  pub other_first : (l : Level) (ls : List Level) (js : List Jump) → Lead (l ∷ ls) js → read (drop (first_jump js).other body) ≡ Some (to_end (second_of l) ∷ ls)
  other_first l ls [] h = absurd h
  other_first l ls (j ∷ js) h = h.1
