-- A body's pass never meets a fault of nesting, and ends with no block open.
use Rattle.std.proofs.Common.{◌≡◌, true, List, [], ◌∷◌, ◌++◌, map, Option, refl, sym, ap, ◌∙◌, subst, append_assoc}
use Rattle.std.specs.Prelude.{Ok}
use Rattle.wasm_lang.specs.declared.types.ValType.{ValType}
use Rattle.wasm_lang.specs.declared.types.ValType.TheVariants.{I32}
use Rattle.wasm_lang_valid.specs.declared.rule.Opening.{Opening}
use Rattle.wasm_lang_valid.specs.declared.rule.Opening.TheVariants.{Straight, Back, FirstArm}
use Rattle.wasm_lang.specs.Instructions.{Instruction, block, loop, if_block, else_mark, end_mark}
use Rattle.wasm_lang_valid.specs.Typing.{Context, late, Fixed, shape, may_end, may_turn}
use Rattle.wasm_lang_valid.specs.State.{Level, fresh, acted, closes, given, around, on_top, opened, plainly, step}
use Rattle.wasm_lang.specs.Instructions.{is_simple, Nested, empty, simple, in_block, in_loop, in_if, in_arms, IsExpression}
use Rattle.wasm_lang_valid.proofs.Stands.{ok_is, onward_ok}

-- the instructions close exactly these blocks
abbrev pub Scans : List Opening → List Instruction → Type 0
Scans [] [] = Unit {0}
Scans [] (i ∷ is) = ⊥
Scans (o ∷ os) [] = ⊥
Scans (o ∷ os) (block r ∷ is) = Scans (Straight ∷ o ∷ os) is
Scans (o ∷ os) (loop r ∷ is) = Scans (Back ∷ o ∷ os) is
Scans (o ∷ os) (if_block r ∷ is) = Scans (FirstArm ∷ o ∷ os) is
Scans (o ∷ os) (else_mark ∷ is) = (may_turn o ≡ Ok tt) × Scans (Straight ∷ os) is
Scans (o ∷ os) (end_mark ∷ is) = Scans os is
Scans (o ∷ os) (i ∷ is) = Scans (o ∷ os) is

abbrev pub openings : List Level → List Opening
openings ls = map (λ l. l.opening) ls

simple_scans : (o : Opening) (os : List Opening) (i : Instruction) (rest : List Instruction) → is_simple i ≡ true → Scans (o ∷ os) rest → Scans (o ∷ os) (i ∷ rest)
simple_scans o os (block r) rest e h = cc
simple_scans o os (loop r) rest e h = cc
simple_scans o os (if_block r) rest e h = cc
simple_scans o os else_mark rest e h = cc
simple_scans o os end_mark rest e h = cc
simple_scans o os i rest e h = h

nested_scans : (inner : List Instruction) → Nested inner → (o : Opening) (os : List Opening) (rest : List Instruction) → Scans (o ∷ os) rest → Scans (o ∷ os) (inner ++ rest)
nested_scans inner empty o os rest h = h
nested_scans inner (simple {i = i} {rest = more} e n) o os rest h = simple_scans o os i (more ++ rest) e (nested_scans more n o os rest h)
nested_scans inner (in_block {body = body} {rest = more} a b) o os rest h =
    rw append_assoc (nested_scans body a Straight (o ∷ os) (end_mark ∷ (more ++ rest)) (nested_scans more b o os rest h))
nested_scans inner (in_loop {body = body} {rest = more} a b) o os rest h =
    rw append_assoc (nested_scans body a Back (o ∷ os) (end_mark ∷ (more ++ rest)) (nested_scans more b o os rest h))
nested_scans inner (in_if {body = body} {rest = more} a b) o os rest h =
    rw append_assoc (nested_scans body a FirstArm (o ∷ os) (end_mark ∷ (more ++ rest)) (nested_scans more b o os rest h))
nested_scans inner (in_arms {first = first} {second = second} {rest = more} a b d) o os rest h =
    let e = append_assoc first (else_mark ∷ (second ++ end_mark ∷ more)) rest ∙ ap (λ l. first ++ else_mark ∷ l) (append_assoc second (end_mark ∷ more) rest) in
    subst (λ l. Scans (FirstArm ∷ o ∷ os) l) (sym e)
    (nested_scans first a FirstArm (o ∷ os) (else_mark ∷ (second ++ end_mark ∷ (more ++ rest)))
    (refl, nested_scans second b Straight (o ∷ os) (end_mark ∷ (more ++ rest)) (nested_scans more d o os rest h)))

pub body_scans : (code : List Instruction) → IsExpression code → Scans (Straight ∷ []) code
body_scans code b = subst (λ c. Scans (Straight ∷ []) c) (sym b.1) (nested_scans b.0 b.2 Straight [] (end_mark ∷ []) tt)

pub none_open : (ls : List Level) → Scans (openings ls) [] → ls ≡ []
none_open [] h = refl
none_open (l ∷ ls) h = absurd h

given_openings : (r : Option ValType) (ls : List Level) → openings (given r ls) ≡ openings ls
given_openings r [] = refl
given_openings r (l ∷ ls) = refl

plain_scans : (c : Context) (i : Instruction) (l : Level) (ls next : List Level) (rest : List Instruction) → Scans (openings (l ∷ ls)) rest → plainly c i (l ∷ ls) ≡ Ok next → Scans (openings next) rest
plain_scans c i l ls next rest h q =
    let s = onward_ok (shape c i) _ next q in
    let t = onward_ok (on_top s.0 (l ∷ ls)) _ next s.2 in
    let u = onward_ok (late c i) _ next t.2 in
    let p = onward_ok (acted s.0 l.endless l.operands) _ t.0 t.1 in
    subst (λ n. Scans (openings n) rest) (ok_is p.2 ∙ ok_is u.2) h

-- a step keeps this
pub scans_on : (base : Context) (ls next : List Level) (i : Instruction) (rest : List Instruction) → Scans (openings ls) (i ∷ rest) → step base ls i ≡ Ok next → Scans (openings next) rest
scans_on base [] next i rest h q = absurd h
scans_on base (l ∷ ls) next (block r) rest h q = subst (λ n. Scans (openings n) rest) (ok_is q) h
scans_on base (l ∷ ls) next (loop r) rest h q = subst (λ n. Scans (openings n) rest) (ok_is q) h
scans_on base (l ∷ ls) next (if_block r) rest h q =
    let a = onward_ok (on_top (Fixed (I32 ∷ []) []) (l ∷ ls)) _ next q in
    let b = onward_ok (acted (Fixed (I32 ∷ []) []) l.endless l.operands) _ a.0 a.1 in
    let e : Ok (fresh FirstArm r ∷ record l { endless = b.0.0; operands = b.0.1 } ∷ ls) ≡ Ok next = ap (opened FirstArm r) (ok_is b.2) ∙ a.2 in
    subst (λ n. Scans (openings n) rest) (ok_is e) h
scans_on base (l ∷ ls) next else_mark rest h q =
    let a = onward_ok (may_turn l.opening) _ next q in
    let b = onward_ok (closes l.result l.endless l.operands) _ next a.2 in
    subst (λ n. Scans (openings n) rest) (ok_is b.2) h.1
scans_on base (l ∷ ls) next end_mark rest h q =
    let a = onward_ok (closes l.result l.endless l.operands) _ next q in
    let b = onward_ok (may_end l.opening l.result) _ next a.2 in
    subst (λ n. Scans (openings n) rest) (ok_is b.2) (rw given_openings h)
scans_on base (l ∷ ls) next i rest h q = plain_scans (around base (l ∷ ls)) i l ls next rest h q
