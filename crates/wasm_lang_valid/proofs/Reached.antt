-- The open blocks that the first instructions may lead to are those that the pass's state stands for.
use Rattle.std.proofs.Common.{◌≡◌, List, [], ◌∷◌, ◌++◌, map, Option, refl, sym, ap, ◌∙◌, subst}
use Rattle.std.specs.Prelude.{Ok}
use Rattle.wasm_lang.specs.declared.types.ValType.{ValType}
use Rattle.wasm_lang.specs.declared.types.ValType.TheVariants.{I32}
use Rattle.wasm_lang_valid.specs.declared.rule.Opening.{Opening}
use Rattle.wasm_lang_valid.specs.declared.rule.Opening.TheVariants.{Straight, Back, FirstArm}
use Rattle.wasm_lang.specs.Instructions.{Instruction, block, loop, if_block, else_mark, end_mark}
use Rattle.wasm_lang_valid.specs.Typing.{Context, onward, listed, Shape, Fixed, fixed, shape, late, label_for, may_end, may_turn}
use Rattle.wasm_lang_valid.specs.State.{Level, fresh, label_of, closes, given, around, on_top, opened, plainly as plain_step, step, steps, at_start, acted}
use Rattle.wasm_lang_valid.specs.Rules.{Open, begun, standing, handed, Next, plainly, blocks, loops, ifs, elses, ends, Leads, MayBe}
use Rattle.wasm_lang_valid.proofs.Stands.{Stands, ok_is, onward_ok, shape_goes, fixed_comes, shape_comes, closes_where, closes_only, known_stands, known_unstands}
use Rattle.wasm_lang_valid.proofs.Rest.{none_stands, none_plain}

abbrev pub open_of : Level → List ValType → Open
open_of l ts = record { opening = l.opening; result = l.result; types = ts }

-- the state stands for these blocks
pub data StandAll : List Level → List Open → Type 0 where
  no_block : StandAll [] []
  a_block : {l : Level} {ls : List Level} {os : List Open} {ts : List ValType} → Stands l.endless l.operands ts → StandAll ls os → StandAll (l ∷ ls) (open_of l ts ∷ os)

labels_same : (ls : List Level) (os : List Open) → StandAll ls os → map (λ o. label_for o.opening o.result) os ≡ map label_of ls
labels_same ls os no_block = refl
labels_same ls os (a_block {l = l} {ls = ls1} {os = os1} st sa) = ap (λ m. label_of l ∷ m) (labels_same ls1 os1 sa)

pub same_around : (base : Context) (ls : List Level) (os : List Open) → StandAll ls os → standing base os ≡ around base ls
same_around base ls os sa = ap (λ m. record base { labels = m }) (labels_same ls os sa)

pub record First (l : Level) (ls : List Level) (os : List Open) : Type 0 where
  pub types : List ValType
  pub others : List Open
  pub is : os ≡ open_of l types ∷ others
  pub stands : Stands l.endless l.operands types
  pub rest : StandAll ls others

abbrev FirstIn : List Level → List Open → Type 0
FirstIn [] os = Unit {0}
FirstIn (l ∷ ls) os = First l ls os

first_in : (ls : List Level) (os : List Open) → StandAll ls os → FirstIn ls os
first_in ls os no_block = tt
first_in ls os (a_block {os = os1} {ts = ts} st sa) = record { types = ts; others = os1; is = refl; stands = st; rest = sa }

pub first_of_all : (l : Level) (ls : List Level) (os : List Open) → StandAll (l ∷ ls) os → First l ls os
first_of_all l ls os sa = first_in (l ∷ ls) os sa

given_stands : (r : Option ValType) (ls : List Level) (os : List Open) → StandAll ls os → StandAll (given r ls) (handed r os)
given_stands r ls os no_block = no_block
given_stands r ls os (a_block {l = l} {ts = ts} st sa) = a_block (known_stands (listed r) l.endless l.operands ts st) sa

given_stood : (r : Option ValType) (ls : List Level) (os : List Open) → StandAll (given r ls) os → (from : List Open) × StandAll ls from × (os ≡ handed r from)
given_stood r [] os sa = (os, sa, none_handed os sa)
  where
    none_handed : (os : List Open) → StandAll [] os → os ≡ handed r os
    none_handed [] sa = refl
    none_handed (o ∷ os) sa = elim sa [ ]
given_stood r (l ∷ ls) os sa =
    let f = first_of_all _ ls os sa in
    let a = known_unstands (listed r) l.endless l.operands f.types f.stands in
    (open_of l a.0 ∷ f.others, a_block a.2 f.rest, f.is ∙ ap (λ ts. record { opening = l.opening; result = l.result; types = ts } ∷ f.others) a.1)

-- an instruction with a shape is taken plainly
step_plain : (base : Context) (ls : List Level) (i : Instruction) (s : Shape) → shape (around base ls) i ≡ Ok s → step base ls i ≡ plain_step (around base ls) i ls
step_plain base ls (block r) s e = cc
step_plain base ls (loop r) s e = cc
step_plain base ls (if_block r) s e = cc
step_plain base ls else_mark s e = cc
step_plain base ls end_mark s e = cc
step_plain base ls i s e = refl

module _ (base : Context) where
  pub record Moves (ls : List Level) (i : Instruction) (os : List Open) : Type 0 where
    pub next : List Level
    pub is : step base ls i ≡ Ok next
    pub stand : StandAll next os

  moves_one : (l : Level) (ls : List Level) (ts : List ValType) (os : List Open) → Stands l.endless l.operands ts → StandAll ls os → (i : Instruction) (last : List Open) → Next base (open_of l ts ∷ os) i last → Moves (l ∷ ls) i last
  moves_one l ls ts os st sa i last (plainly {s = s} {takes = takes} {gives = gives} below from has acts after) =
      let e = same_around base (l ∷ ls) (open_of l ts ∷ os) (a_block st sa) in
      let has1 = subst (λ c. shape c i ≡ Ok s) e has in
      let late1 = subst (λ c. late c i ≡ Ok tt) e after in
      let a = shape_goes s takes gives acts l.endless l.operands below (subst (λ t. Stands l.endless l.operands t) from st) in
      let l1 = record l { endless = a.0.0; operands = a.0.1 } in
      record { next = l1 ∷ ls; is = step_plain base (l ∷ ls) i s has1 ∙ rw (has1, a.1, late1); stand = a_block a.2 sa }
  moves_one l ls ts os st sa i last (blocks {r = r}) = record { next = fresh Straight r ∷ l ∷ ls; is = refl; stand = a_block tt (a_block st sa) }
  moves_one l ls ts os st sa i last (loops {r = r}) = record { next = fresh Back r ∷ l ∷ ls; is = refl; stand = a_block tt (a_block st sa) }
  moves_one l ls ts os st sa i last (ifs {r = r} below from) =
      let a = shape_goes (Fixed (I32 ∷ []) []) _ _ fixed l.endless l.operands below (subst (λ t. Stands l.endless l.operands t) from st) in
      let l1 = record l { endless = a.0.0; operands = a.0.1 } in
      let q : on_top (Fixed (I32 ∷ []) []) (l ∷ ls) ≡ Ok (l1 ∷ ls) = ap (λ r. onward r (λ p. Ok (record l { endless = p.0; operands = p.1 } ∷ ls))) a.1 in
      record { next = fresh FirstArm r ∷ l1 ∷ ls; is = ap (λ s. onward s (opened FirstArm r)) q; stand = a_block tt (a_block a.2 sa) }
  moves_one l ls ts os st sa i last (elses t e) =
      let c = closes_where l.result l.endless l.operands (subst (λ t. Stands l.endless l.operands t) e st) in
      record { next = fresh Straight l.result ∷ ls; is = rw (t, c); stand = a_block tt sa }
  moves_one l ls ts os st sa i last (ends m e) =
      let c = closes_where l.result l.endless l.operands (subst (λ t. Stands l.endless l.operands t) e st) in
      record { next = given l.result ls; is = rw (c, m); stand = given_stands l.result ls os sa }

  pub moves : (ls : List Level) (os : List Open) (i : Instruction) (last : List Open) → StandAll ls os → Next base os i last → Moves ls i last
  moves ls os i last no_block n = elim n [ ]
  moves ls os i last (a_block {l = l} {ls = ls1} {os = os1} {ts = ts} st sa) n = moves_one l ls1 ts os1 st sa i last n

  pub record Came (ls : List Level) (i : Instruction) (last : List Open) : Type 0 where
    pub from : List Open
    pub stand : StandAll ls from
    pub next : Next base from i last

  came_plain : (l : Level) (ls next : List Level) (i : Instruction) (last : List Open) → plain_step (around base (l ∷ ls)) i (l ∷ ls) ≡ Ok next → StandAll next last → Came (l ∷ ls) i last
  came_plain l ls next i last q sa =
      let s = onward_ok (shape (around base (l ∷ ls)) i) _ next q in
      let t = onward_ok (on_top s.0 (l ∷ ls)) _ next s.2 in
      let u = onward_ok (late (around base (l ∷ ls)) i) _ next t.2 in
      let p = onward_ok (acted s.0 l.endless l.operands) _ t.0 t.1 in
      let l1 = record l { endless = p.0.0; operands = p.0.1 } in
      let e : l1 ∷ ls ≡ next = ok_is p.2 ∙ ok_is u.2 in
      let f = first_of_all l1 ls last (subst (λ n. StandAll n last) (sym e) sa) in
      let a = shape_comes s.0 l.endless l.operands p.0 f.types p.1 f.stands in
      let now = open_of l (a.0 ++ a.2) ∷ f.others in
      let c = same_around base (l ∷ ls) now (a_block a.5 f.rest) in
      let n : Next base now i (open_of l (a.1 ++ a.2) ∷ f.others) = plainly a.2 refl (subst (λ c. shape c i ≡ Ok s.0) (sym c) s.1) a.3 (subst (λ c. late c i ≡ Ok tt) (sym c) u.1) in
      record { from = now; stand = a_block a.5 f.rest; next = subst (λ o. Next base now i o) (sym (f.is ∙ ap (λ ts. open_of l ts ∷ f.others) a.4)) n }

  -- a block that was just opened has no operands
  pub fresh_first : (o : Opening) (r : Option ValType) (ls : List Level) (last : List Open) → StandAll (fresh o r ∷ ls) last → (os : List Open) × (last ≡ begun o r ∷ os) × StandAll ls os
  fresh_first o r ls last sa =
      let f = first_of_all (fresh o r) ls last sa in
      (f.others, f.is ∙ ap (λ ts. open_of (fresh o r) ts ∷ f.others) (none_stands f.types f.stands), f.rest)

  pub came : (ls next : List Level) (i : Instruction) (last : List Open) → step base ls i ≡ Ok next → StandAll next last → Came ls i last
  came [] next (block r) last q sa = cc
  came [] next (loop r) last q sa = cc
  came [] next (if_block r) last q sa = cc
  came [] next else_mark last q sa = cc
  came [] next end_mark last q sa = cc
  came [] next i last q sa = absurd (none_plain base (around base []) i next q)
  came (l ∷ ls) next (block r) last q sa =
      let f = fresh_first Straight r (l ∷ ls) last (subst (λ n. StandAll n last) (sym (ok_is q)) sa) in
      let g = first_of_all l ls f.0 f.2 in
      record { from = f.0; stand = f.2; next = subst (λ o. Next base o (block r) last) (sym g.is) (subst (λ o. Next base (open_of l g.types ∷ g.others) (block r) o) (sym (f.1 ∙ ap (λ o. begun Straight r ∷ o) g.is)) blocks) }
  came (l ∷ ls) next (loop r) last q sa =
      let f = fresh_first Back r (l ∷ ls) last (subst (λ n. StandAll n last) (sym (ok_is q)) sa) in
      let g = first_of_all l ls f.0 f.2 in
      record { from = f.0; stand = f.2; next = subst (λ o. Next base o (loop r) last) (sym g.is) (subst (λ o. Next base (open_of l g.types ∷ g.others) (loop r) o) (sym (f.1 ∙ ap (λ o. begun Back r ∷ o) g.is)) loops) }
  came (l ∷ ls) next (if_block r) last q sa =
      let a = onward_ok (on_top (Fixed (I32 ∷ []) []) (l ∷ ls)) _ next q in
      let b = onward_ok (acted (Fixed (I32 ∷ []) []) l.endless l.operands) _ a.0 a.1 in
      let l1 = record l { endless = b.0.0; operands = b.0.1 } in
      let e : Ok (fresh FirstArm r ∷ l1 ∷ ls) ≡ Ok next = ap (opened FirstArm r) (ok_is b.2) ∙ a.2 in
      let f = fresh_first FirstArm r (l1 ∷ ls) last (subst (λ n. StandAll n last) (sym (ok_is e)) sa) in
      let g = first_of_all l1 ls f.0 f.2 in
      let d = fixed_comes (I32 ∷ []) [] l.endless l.operands b.0 g.types b.1 g.stands in
      let now = open_of l (I32 ∷ d.0) ∷ g.others in
      let n : Next base now (if_block r) (begun FirstArm r ∷ (open_of l d.0 ∷ g.others)) = ifs d.0 refl in
      record { from = now; stand = a_block d.2 g.rest; next = subst (λ o. Next base now (if_block r) o) (sym (f.1 ∙ ap (λ o. begun FirstArm r ∷ o) (g.is ∙ ap (λ ts. open_of l ts ∷ g.others) d.1))) n }
  came (l ∷ ls) next else_mark last q sa =
      let a = onward_ok (may_turn l.opening) _ next q in
      let b = onward_ok (closes l.result l.endless l.operands) _ next a.2 in
      let f = fresh_first Straight l.result ls last (subst (λ n. StandAll n last) (sym (ok_is b.2)) sa) in
      let now = open_of l (listed l.result) ∷ f.0 in
      record { from = now; stand = a_block (closes_only l.result l.endless l.operands b.0 b.1) f.2; next = subst (λ o. Next base now else_mark o) (sym f.1) (elses a.1 refl) }
  came (l ∷ ls) next end_mark last q sa =
      let a = onward_ok (closes l.result l.endless l.operands) _ next q in
      let b = onward_ok (may_end l.opening l.result) _ next a.2 in
      let f = given_stood l.result ls last (subst (λ n. StandAll n last) (sym (ok_is b.2)) sa) in
      let now = open_of l (listed l.result) ∷ f.0 in
      record { from = now; stand = a_block (closes_only l.result l.endless l.operands a.0 a.1) f.1; next = subst (λ o. Next base now end_mark o) (sym f.2) (ends b.1 refl) }
  came (l ∷ ls) next i last q sa = came_plain l ls next i last q sa

  all_move : (start : List Instruction) (ls next : List Level) (os last : List Open) → StandAll ls os → steps base ls start ≡ Ok next → Leads base os start last → StandAll next last
  all_move [] ls next os last sa q lead = subst (λ n. StandAll n last) (ok_is q) (subst (λ o. StandAll ls o) lead sa)
  all_move (i ∷ is) ls next os last sa q lead =
      let m = moves ls os i lead.0 sa lead.1 in
      all_move is m.next next lead.0 last m.stand (sym (ap (λ r. onward r (λ n. steps base n is)) m.is) ∙ q) lead.2

  all_came : (start : List Instruction) (ls next : List Level) (last : List Open) → steps base ls start ≡ Ok next → StandAll next last → (os : List Open) × StandAll ls os × Leads base os start last
  all_came [] ls next last q sa = (last, subst (λ n. StandAll n last) (sym (ok_is q)) sa, refl)
  all_came (i ∷ is) ls next last q sa =
      let a = onward_ok (step base ls i) (λ n. steps base n is) next q in
      let b = all_came is a.0 next last a.2 sa in
      let c = came ls a.0 i b.0 a.1 b.1 in
      (c.from, c.stand, (b.0, c.next, b.2))

  -- what the first instructions may lead to, the state stands for
  pub may_be_stands : (start : List Instruction) (ls : List Level) (os : List Open) → steps base (at_start base.returns) start ≡ Ok ls → MayBe base start os → StandAll ls os
  may_be_stands start ls os q lead = all_move start (at_start base.returns) ls (begun Straight base.returns ∷ []) os (a_block tt no_block) q lead

  -- .. and nothing else
  pub stands_may_be : (start : List Instruction) (ls : List Level) (os : List Open) → steps base (at_start base.returns) start ≡ Ok ls → StandAll ls os → MayBe base start os
  stands_may_be start ls os q sa =
      let a = all_came start (at_start base.returns) ls os q sa in
      let f = fresh_first Straight base.returns [] a.0 a.1 in
      subst (λ o. Leads base o start os) (f.1 ∙ ap (λ o. begun Straight base.returns ∷ o) (nothing f.0 f.2)) a.2
    where
      nothing : (os : List Open) → StandAll [] os → os ≡ []
      nothing [] sa = refl
      nothing (o ∷ os) sa = elim sa [ ]
