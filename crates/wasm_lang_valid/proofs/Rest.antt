-- What the rest of a body has to be after the open blocks, and that one step keeps it.
use Rattle.std.proofs.Common.{◌≡◌, ◌⊎◌, inl, inr, Bool, false, List, [], ◌∷◌, ◌++◌, map, Option, Some, None, refl, sym, ap, ◌∙◌, subst, append_assoc}
use Rattle.std.proofs.lemmas.List.{append-nil}
use Rattle.std.specs.Prelude.{Ok, Err}
use Rattle.wasm_lang.specs.declared.types.ValType.{ValType}
use Rattle.wasm_lang.specs.declared.types.ValType.TheVariants.{I32}
use Rattle.wasm_lang_valid.specs.declared.rule.Opening.{Opening}
use Rattle.wasm_lang_valid.specs.declared.rule.Opening.TheVariants.{Straight, Back, FirstArm}
use Rattle.wasm_lang_valid.specs.declared.rule.Rule.TheVariants.{Nesting}
use Rattle.wasm_lang.specs.Instructions.{Instruction, unreachable, block, loop, if_block, else_mark, end_mark}
use Rattle.wasm_lang_valid.specs.Typing.{Context, onward, late, listed, inside, Shape, Fixed, Acts, fixed, leaves, shape, Typed, typed_empty, typed_plain, typed_block, typed_loop, typed_arms, typed_if, label_for, may_end, may_turn}
use Rattle.wasm_lang_valid.specs.State.{Operand, Level, fresh, label_of, closes, given, around, on_top, opened, plainly, step, acted}
use Rattle.wasm_lang_valid.proofs.Stands.{Stands, ok_is, onward_ok, shape_goes, fixed_comes, shape_comes, closes_where, closes_only, known_stands, known_unstands, some_stack}

-- a typed sequence that begins with an instruction that opens and closes nothing
record Plainly (c : Context) (i : Instruction) (rest : List Instruction) (ts us : List ValType) : Type 0 where
  form : Shape
  takes : List ValType
  gives : List ValType
  below : List ValType
  has : shape c i ≡ Ok form
  acts : Acts form takes gives
  from : ts ≡ takes ++ below
  last : late c i ≡ Ok tt
  after : Typed c rest (gives ++ below) us

-- .. with a block
record Opens (label : Option ValType) (c : Context) (r : Option ValType) (rest : List Instruction) (ts us : List ValType) : Type 0 where
  body : List Instruction
  more : List Instruction
  is : rest ≡ body ++ end_mark ∷ more
  typed : Typed (inside label c) body [] (listed r)
  after : Typed c more (listed r ++ ts) us

-- .. with an if that has an else
record Chooses (c : Context) (r : Option ValType) (rest : List Instruction) (ts us : List ValType) : Type 0 where
  first : List Instruction
  second : List Instruction
  more : List Instruction
  is : rest ≡ first ++ else_mark ∷ (second ++ end_mark ∷ more)
  typed_first : Typed (inside r c) first [] (listed r)
  typed_second : Typed (inside r c) second [] (listed r)
  after : Typed c more (listed r ++ ts) us

record Tests (c : Context) (r : Option ValType) (rest : List Instruction) (ts us : List ValType) : Type 0 where
  below : List ValType
  from : ts ≡ I32 ∷ below
  either : Chooses c r rest below us ⊎ ((r ≡ None) × Opens None c None rest below us)

abbrev Begins : Context → List Instruction → List ValType → List ValType → Type 0
Begins c [] ts us = ts ≡ us
Begins c (block r ∷ rest) ts us = Opens r c r rest ts us
Begins c (loop r ∷ rest) ts us = Opens None c r rest ts us
Begins c (if_block r ∷ rest) ts us = Tests c r rest ts us
Begins c (else_mark ∷ rest) ts us = ⊥
Begins c (end_mark ∷ rest) ts us = ⊥
Begins c (i ∷ rest) ts us = Plainly c i rest ts us

plain_begins : (c : Context) (i : Instruction) (rest : List Instruction) (ts us : List ValType) → Plainly c i rest ts us → Begins c (i ∷ rest) ts us
plain_begins c (block r) rest ts us p = let h = p.has in cc
plain_begins c (loop r) rest ts us p = let h = p.has in cc
plain_begins c (if_block r) rest ts us p = let h = p.has in cc
plain_begins c else_mark rest ts us p = let h = p.has in cc
plain_begins c end_mark rest ts us p = let h = p.has in cc
plain_begins c i rest ts us p = p

begins : (c : Context) (code : List Instruction) (ts us : List ValType) → Typed c code ts us → Begins c code ts us
begins c code ts us typed_empty = refl
begins c code ts us (typed_plain {i = i} {rest = rest} {s = s} {takes = takes} {gives = gives} below has acts last after) =
    plain_begins c i rest (takes ++ below) us (record { form = s; takes = takes; gives = gives; below = below; has = has; acts = acts; from = refl; last = last; after = after })
begins c code ts us (typed_block {body = body} {rest = rest} typed after) = record { body = body; more = rest; is = refl; typed = typed; after = after }
begins c code ts us (typed_loop {body = body} {rest = rest} typed after) = record { body = body; more = rest; is = refl; typed = typed; after = after }
begins c code ts us (typed_arms {first = first} {second = second} {rest = rest} {below = below} a b after) =
    record { below = below; from = refl; either = inl (record { first = first; second = second; more = rest; is = refl; typed_first = a; typed_second = b; after = after }) }
begins c code ts us (typed_if {body = body} {rest = rest} {below = below} typed after) =
    record { below = below; from = refl; either = inr (refl, record { body = body; more = rest; is = refl; typed = typed; after = after }) }

-- what has to follow a block that gave this result
abbrev pub Next : Type 1
Next = Option ValType → List Instruction → Type 0

-- the second arm of an if, and what follows
pub record Second (next : Next) (c : Context) (r : Option ValType) (code : List Instruction) : Type 0 where
  pub body : List Instruction
  pub after : List Instruction
  pub is : code ≡ body ++ end_mark ∷ after
  pub typed : Typed c body [] (listed r)
  pub follows : next r after

-- what closes a block
abbrev pub Closes : Next → Context → Opening → Option ValType → List Instruction → Type 0
Closes next c o r (end_mark ∷ rest) = (may_end o r ≡ Ok tt) × next r rest
Closes next c o r (else_mark ∷ rest) = (may_turn o ≡ Ok tt) × Second next c r rest
Closes next c o r rest = ⊥

-- the rest of a block with these operands on its stack, and what follows
pub record Within (next : Next) (c : Context) (l : Level) (pushed : List ValType) (code : List Instruction) : Type 0 where
  pub types : List ValType
  pub body : List Instruction
  pub rest : List Instruction
  pub stands : Stands l.endless l.operands types
  pub is : code ≡ body ++ rest
  pub typed : Typed c body (pushed ++ types) (listed l.result)
  pub closes : Closes next c l.opening l.result rest

-- the code completes these open blocks, after a block in them has given this result
abbrev pub After : Context → List Level → Next
After base [] r code = code ≡ []
After base (l ∷ ls) r code = Within (After base ls) (around base (l ∷ ls)) l (listed r) code

-- the code completes these open blocks
abbrev pub Completes : Context → List Level → List Instruction → Type 0
Completes base ls code = After base ls None code

pub none_stands : (ts : List ValType) → Stands false [] ts → ts ≡ []
none_stands [] h = refl
none_stands (t ∷ ts) h = cc

turn_label : (o : Opening) (r : Option ValType) → may_turn o ≡ Ok tt → label_for o r ≡ r
turn_label Straight r e = cc
turn_label Back r e = cc
turn_label FirstArm r e = refl

flat : (body mid more rest : List Instruction) (m : Instruction) → mid ≡ body ++ m ∷ more → mid ++ rest ≡ body ++ m ∷ (more ++ rest)
flat body mid more rest m e = ap (λ l. l ++ rest) e ∙ append_assoc body (m ∷ more) rest

unflat : (code body rest more b2 r2 : List Instruction) (m : Instruction) → code ≡ body ++ rest → rest ≡ m ∷ more → more ≡ b2 ++ r2 → code ≡ (body ++ m ∷ b2) ++ r2
unflat code body rest more b2 r2 m e1 e2 e3 =
    e1 ∙ ap (λ l. body ++ l) (e2 ∙ ap (λ l. m ∷ l) e3) ∙ sym (append_assoc body (m ∷ b2) r2)

-- what an end or an else closes
pub ends : (next : Next) (c : Context) (o : Opening) (r : Option ValType) (rest : List Instruction) → may_turn o ≡ Err Nesting → Closes next c o r rest → (more : List Instruction) × (rest ≡ end_mark ∷ more) × next r more
ends next c o r (end_mark ∷ rest) e h = (rest, refl, h.1)
ends next c o r (else_mark ∷ rest) e h = let f = h.0 in cc
ends next c o r rest e h = absurd h

module _ (base : Context) where
  given_after : (ls : List Level) (r : Option ValType) (code : List Instruction) → After base ls r code → Completes base (given r ls) code
  given_after [] r code h = h
  given_after (l ∷ ls) r code h =
      record { types = listed r ++ h.types; body = h.body; rest = h.rest; stands = known_stands (listed r) l.endless l.operands h.types h.stands; is = h.is; typed = h.typed; closes = h.closes }

  given_before : (ls : List Level) (r : Option ValType) (code : List Instruction) → Completes base (given r ls) code → After base ls r code
  given_before [] r code h = h
  given_before (l ∷ ls) r code h =
      let a = known_unstands (listed r) l.endless l.operands h.types h.stands in
      record { types = a.0; body = h.body; rest = h.rest; stands = a.2; is = h.is; typed = subst (λ ts. Typed (around base (l ∷ ls)) h.body ts (listed l.result)) a.1 h.typed; closes = h.closes }

  -- one instruction that may stand there is taken, and what was left completes what is then open
  pub record Goes (ls : List Level) (i : Instruction) (code : List Instruction) : Type 0 where
    pub next : List Level
    pub is : step base ls i ≡ Ok next
    pub after : Completes base next code

  close_goes : (l : Level) (ls : List Level) (i : Instruction) (code : List Instruction) → Stands l.endless l.operands (listed l.result) → Closes (After base ls) (around base (l ∷ ls)) l.opening l.result (i ∷ code) → Goes (l ∷ ls) i code
  close_goes l ls end_mark code st h =
      record { next = given l.result ls; is = rw (closes_where l.result l.endless l.operands st, h.0); after = given_after ls l.result code h.1 }
  close_goes l ls else_mark code st h =
      let s = h.1 in
      let typed = subst (λ m. Typed (record base { labels = m ∷ map label_of ls }) s.body [] (listed l.result)) (turn_label l.opening l.result h.0) s.typed in
      record {
        next = fresh Straight l.result ∷ ls;
        is = rw (h.0, closes_where l.result l.endless l.operands st);
        after = record { types = []; body = s.body; rest = end_mark ∷ s.after; stands = tt; is = s.is; typed = typed; closes = (refl, s.follows) };
      }
  close_goes l ls i code st h = absurd h

  -- what is left of a block after an inner one
  resumed : (l : Level) (ls : List Level) (r : Option ValType) (ts : List ValType) (more rest : List Instruction) → Stands l.endless l.operands ts → Typed (around base (l ∷ ls)) more (listed r ++ ts) (listed l.result) → Closes (After base ls) (around base (l ∷ ls)) l.opening l.result rest → After base (l ∷ ls) r (more ++ rest)
  resumed l ls r ts more rest st ty cl = record { types = ts; body = more; rest = rest; stands = st; is = refl; typed = ty; closes = cl }

  plain_goes : (l : Level) (ls : List Level) (i : Instruction) (ts : List ValType) (body rest code : List Instruction) → Stands l.endless l.operands ts → Plainly (around base (l ∷ ls)) i body ts (listed l.result) → Closes (After base ls) (around base (l ∷ ls)) l.opening l.result rest → code ≡ body ++ rest → (next : List Level) × (plainly (around base (l ∷ ls)) i (l ∷ ls) ≡ Ok next) × Completes base next code
  plain_goes l ls i ts body rest code st b cl e =
      let a = shape_goes b.form b.takes b.gives b.acts l.endless l.operands b.below (subst (λ t. Stands l.endless l.operands t) b.from st) in
      let l1 = record l { endless = a.0.0; operands = a.0.1 } in
      (l1 ∷ ls, rw (b.has, a.1, b.last), record { types = b.gives ++ b.below; body = body; rest = rest; stands = a.2; is = e; typed = b.after; closes = cl })

  begin_goes : (l : Level) (ls : List Level) (i : Instruction) (ts : List ValType) (body rest code : List Instruction) → Stands l.endless l.operands ts → Begins (around base (l ∷ ls)) (i ∷ body) ts (listed l.result) → Closes (After base ls) (around base (l ∷ ls)) l.opening l.result rest → code ≡ body ++ rest → Goes (l ∷ ls) i code
  begin_goes l ls (block r) ts body rest code st b cl e =
      record {
        next = fresh Straight r ∷ l ∷ ls;
        is = refl;
        after = record { types = []; body = b.body; rest = end_mark ∷ (b.more ++ rest); stands = tt; is = e ∙ flat b.body body b.more rest end_mark b.is; typed = b.typed; closes = (refl, resumed l ls r ts b.more rest st b.after cl) };
      }
  begin_goes l ls (loop r) ts body rest code st b cl e =
      record {
        next = fresh Back r ∷ l ∷ ls;
        is = refl;
        after = record { types = []; body = b.body; rest = end_mark ∷ (b.more ++ rest); stands = tt; is = e ∙ flat b.body body b.more rest end_mark b.is; typed = b.typed; closes = (refl, resumed l ls r ts b.more rest st b.after cl) };
      }
  begin_goes l ls (if_block r) ts body rest code st b cl e =
      let a = shape_goes (Fixed (I32 ∷ []) []) _ _ fixed l.endless l.operands b.below (subst (λ t. Stands l.endless l.operands t) b.from st) in
      let l1 = record l { endless = a.0.0; operands = a.0.1 } in
      let q : on_top (Fixed (I32 ∷ []) []) (l ∷ ls) ≡ Ok (l1 ∷ ls) = ap (λ r. onward r (λ p. Ok (record l { endless = p.0; operands = p.1 } ∷ ls))) a.1 in
      record { next = fresh FirstArm r ∷ l1 ∷ ls; is = ap (λ s. onward s (opened FirstArm r)) q; after = arm_goes l1 ls r b.below body rest code a.2 b.either cl e }
    where
      arm_goes : (l : Level) (ls : List Level) (r : Option ValType) (ts : List ValType) (body rest code : List Instruction) → Stands l.endless l.operands ts → Chooses (around base (l ∷ ls)) r body ts (listed l.result) ⊎ ((r ≡ None) × Opens None (around base (l ∷ ls)) None body ts (listed l.result)) → Closes (After base ls) (around base (l ∷ ls)) l.opening l.result rest → code ≡ body ++ rest → Completes base (fresh FirstArm r ∷ l ∷ ls) code
      arm_goes l ls r ts body rest code st (inl b) cl e =
          record {
            types = [];
            body = b.first;
            rest = else_mark ∷ (b.second ++ end_mark ∷ (b.more ++ rest));
            stands = tt;
            is = e ∙ flat b.first body (b.second ++ end_mark ∷ b.more) rest else_mark b.is ∙ ap (λ l. b.first ++ else_mark ∷ l) (append_assoc b.second (end_mark ∷ b.more) rest);
            typed = b.typed_first;
            closes = (refl, record { body = b.second; after = b.more ++ rest; is = refl; typed = b.typed_second; follows = resumed l ls r ts b.more rest st b.after cl });
          }
      arm_goes l ls r ts body rest code st (inr (is_none, b)) cl e =
          subst (λ r. Completes base (fresh FirstArm r ∷ l ∷ ls) code) (sym is_none)
          (record { types = []; body = b.body; rest = end_mark ∷ (b.more ++ rest); stands = tt; is = e ∙ flat b.body body b.more rest end_mark b.is; typed = b.typed; closes = (refl, resumed l ls None ts b.more rest st b.after cl) })
  begin_goes l ls else_mark ts body rest code st b cl e = absurd b
  begin_goes l ls end_mark ts body rest code st b cl e = absurd b
  begin_goes l ls i ts body rest code st b cl e =
      let a = plain_goes l ls i ts body rest code st b cl e in
      record { next = a.0; is = a.1; after = a.2 }

  -- forward: where some rest completes the open blocks, the step doesn't refuse
  pub goes : (ls : List Level) (i : Instruction) (code : List Instruction) → Completes base ls (i ∷ code) → Goes ls i code
  goes [] i code h = cc
  goes (l ∷ ls) i code h = by h.body h.rest h.is h.typed h.closes
    where
      by : (body rest : List Instruction) → i ∷ code ≡ body ++ rest → Typed (around base (l ∷ ls)) body h.types (listed l.result) → Closes (After base ls) (around base (l ∷ ls)) l.opening l.result rest → Goes (l ∷ ls) i code
      by [] rest e ty cl =
          close_goes l ls i code (subst (λ t. Stands l.endless l.operands t) (begins _ _ _ _ ty) h.stands) (subst (λ x. Closes (After base ls) (around base (l ∷ ls)) l.opening l.result x) (sym e) cl)
      by (j ∷ body) rest e ty cl =
          let ei : j ≡ i = cc in
          let ec : code ≡ body ++ rest = cc in
          begin_goes l ls i h.types body rest code h.stands (begins _ _ _ _ (subst (λ x. Typed (around base (l ∷ ls)) (x ∷ body) h.types (listed l.result)) ei ty)) cl ec

  -- back: what completes the blocks that are open after a step completes those before it with the step's instruction
  back_plain : (l : Level) (ls next : List Level) (i : Instruction) (code : List Instruction) → plainly (around base (l ∷ ls)) i (l ∷ ls) ≡ Ok next → Completes base next code → Completes base (l ∷ ls) (i ∷ code)
  back_plain l ls next i code q w =
      let s = onward_ok (shape (around base (l ∷ ls)) i) _ next q in
      let t = onward_ok (on_top s.0 (l ∷ ls)) _ next s.2 in
      let u = onward_ok (late (around base (l ∷ ls)) i) _ next t.2 in
      let p = onward_ok (acted s.0 l.endless l.operands) _ t.0 t.1 in
      let l1 = record l { endless = p.0.0; operands = p.0.1 } in
      let e : l1 ∷ ls ≡ next = ok_is p.2 ∙ ok_is u.2 in
      let w1 : Completes base (l1 ∷ ls) code = subst (λ n. Completes base n code) (sym e) w in
      let a = shape_comes s.0 l.endless l.operands p.0 w1.types p.1 w1.stands in
      let ty : Typed (around base (l ∷ ls)) w1.body (a.1 ++ a.2) (listed l.result) = subst (λ t. Typed (around base (l ∷ ls)) w1.body t (listed l.result)) a.4 w1.typed in
      record { types = a.0 ++ a.2; body = i ∷ w1.body; rest = w1.rest; stands = a.5; is = ap (λ l. i ∷ l) w1.is; typed = typed_plain a.2 s.1 a.3 u.1 ty; closes = w1.closes }

  -- the body of an inner block, and the rest of the outer one
  record Inner (o : Opening) (r : Option ValType) (l : Level) (ls : List Level) (code : List Instruction) : Type 0 where
    body : List Instruction
    more : List Instruction
    rest : List Instruction
    types : List ValType
    stands : Stands l.endless l.operands types
    is : code ≡ (body ++ end_mark ∷ more) ++ rest
    typed : Typed (inside (label_for o r) (around base (l ∷ ls))) body [] (listed r)
    after : Typed (around base (l ∷ ls)) more (listed r ++ types) (listed l.result)
    closes : Closes (After base ls) (around base (l ∷ ls)) l.opening l.result rest

  inner : (o : Opening) (r : Option ValType) (l : Level) (ls : List Level) (code : List Instruction) → may_turn o ≡ Err Nesting → Completes base (fresh o r ∷ l ∷ ls) code → Inner o r l ls code
  inner o r l ls code t w =
      let e = ends (After base (l ∷ ls)) (around base (fresh o r ∷ l ∷ ls)) o r w.rest t w.closes in
      let v = e.2 in
      record {
        body = w.body;
        more = v.body;
        rest = v.rest;
        types = v.types;
        stands = v.stands;
        is = unflat code w.body w.rest e.0 v.body v.rest end_mark w.is e.1 v.is;
        typed = subst (λ ts. Typed (around base (fresh o r ∷ l ∷ ls)) w.body ts (listed r)) (none_stands w.types w.stands) w.typed;
        after = v.typed;
        closes = v.closes;
      }

  back_if : (r : Option ValType) (l : Level) (ls : List Level) (p : Bool × List Operand) (code : List Instruction) → acted (Fixed (I32 ∷ []) []) l.endless l.operands ≡ Ok p → (w : Completes base (fresh FirstArm r ∷ record l { endless = p.0; operands = p.1 } ∷ ls) code) → (rest : List Instruction) → w.rest ≡ rest → Closes (After base (record l { endless = p.0; operands = p.1 } ∷ ls)) (around base (fresh FirstArm r ∷ l ∷ ls)) FirstArm r rest → Completes base (l ∷ ls) (if_block r ∷ code)
  back_if (Some t) l ls p code q w (end_mark ∷ rest) e h = let f = h.0 in cc
  back_if None l ls p code q w (end_mark ∷ rest) e h =
      let v = h.1 in
      let a = fixed_comes (I32 ∷ []) [] l.endless l.operands p v.types q v.stands in
      record {
        types = I32 ∷ a.0;
        body = if_block None ∷ (w.body ++ end_mark ∷ v.body);
        rest = v.rest;
        stands = a.2;
        is = ap (λ l. if_block None ∷ l) (unflat code w.body w.rest rest v.body v.rest end_mark w.is e v.is);
        typed = typed_if (subst (λ ts. Typed (around base (fresh FirstArm None ∷ l ∷ ls)) w.body ts []) (none_stands w.types w.stands) w.typed) (subst (λ ts. Typed (around base (l ∷ ls)) v.body ts (listed l.result)) a.1 v.typed);
        closes = v.closes;
      }
  back_if r l ls p code q w (else_mark ∷ rest) e h =
      let d = h.1 in
      let v = d.follows in
      let a = fixed_comes (I32 ∷ []) [] l.endless l.operands p v.types q v.stands in
      let w_first = subst (λ ts. Typed (around base (fresh FirstArm r ∷ l ∷ ls)) w.body ts (listed r)) (none_stands w.types w.stands) w.typed in
      let rest_is : rest ≡ (d.body ++ end_mark ∷ v.body) ++ v.rest = unflat rest d.body (end_mark ∷ d.after) d.after v.body v.rest end_mark d.is refl v.is in
      record {
        types = I32 ∷ a.0;
        body = if_block r ∷ (w.body ++ else_mark ∷ (d.body ++ end_mark ∷ v.body));
        rest = v.rest;
        stands = a.2;
        is = ap (λ l. if_block r ∷ l) (unflat code w.body w.rest rest (d.body ++ end_mark ∷ v.body) v.rest else_mark w.is e rest_is);
        typed = typed_arms w_first d.typed (subst (λ ts. Typed (around base (l ∷ ls)) v.body (listed r ++ ts) (listed l.result)) a.1 v.typed);
        closes = v.closes;
      }
  back_if r l ls p code q w rest e h = absurd h

  pub none_plain : (c : Context) (i : Instruction) (next : List Level) → plainly c i [] ≡ Ok next → ⊥
  none_plain c i next q =
      let a = onward_ok (shape c i) _ next q in
      let e = a.2 in
      cc

  pub comes : (ls next : List Level) (i : Instruction) (code : List Instruction) → step base ls i ≡ Ok next → Completes base next code → Completes base ls (i ∷ code)
  comes [] next (block r) code q w = cc
  comes [] next (loop r) code q w = cc
  comes [] next (if_block r) code q w = cc
  comes [] next else_mark code q w = cc
  comes [] next end_mark code q w = cc
  comes [] next i code q w = absurd (none_plain (around base []) i next q)
  comes (l ∷ ls) next (block r) code q w =
      let n = inner Straight r l ls code refl (subst (λ n. Completes base n code) (sym (ok_is q)) w) in
      record { types = n.types; body = block r ∷ (n.body ++ end_mark ∷ n.more); rest = n.rest; stands = n.stands; is = ap (λ l. block r ∷ l) n.is; typed = typed_block n.typed n.after; closes = n.closes }
  comes (l ∷ ls) next (loop r) code q w =
      let n = inner Back r l ls code refl (subst (λ n. Completes base n code) (sym (ok_is q)) w) in
      record { types = n.types; body = loop r ∷ (n.body ++ end_mark ∷ n.more); rest = n.rest; stands = n.stands; is = ap (λ l. loop r ∷ l) n.is; typed = typed_loop n.typed n.after; closes = n.closes }
  comes (l ∷ ls) next (if_block r) code q w =
      let a = onward_ok (on_top (Fixed (I32 ∷ []) []) (l ∷ ls)) _ next q in
      let b = onward_ok (acted (Fixed (I32 ∷ []) []) l.endless l.operands) _ a.0 a.1 in
      let e : Ok (fresh FirstArm r ∷ record l { endless = b.0.0; operands = b.0.1 } ∷ ls) ≡ Ok next = ap (opened FirstArm r) (ok_is b.2) ∙ a.2 in
      let w1 : Completes base (fresh FirstArm r ∷ record l { endless = b.0.0; operands = b.0.1 } ∷ ls) code = subst (λ n. Completes base n code) (sym (ok_is e)) w in
      back_if r l ls b.0 code b.1 w1 w1.rest refl w1.closes
  comes (l ∷ ls) next else_mark code q w =
      let a = onward_ok (may_turn l.opening) _ next q in
      let b = onward_ok (closes l.result l.endless l.operands) _ next a.2 in
      let w1 : Completes base (fresh Straight l.result ∷ ls) code = subst (λ n. Completes base n code) (sym (ok_is b.2)) w in
      let e = ends (After base ls) (around base (fresh Straight l.result ∷ ls)) Straight l.result w1.rest refl w1.closes in
      let ty = subst (λ ts. Typed (around base (fresh Straight l.result ∷ ls)) w1.body ts (listed l.result)) (none_stands w1.types w1.stands) w1.typed in
      record {
        types = listed l.result;
        body = [];
        rest = else_mark ∷ code;
        stands = closes_only l.result l.endless l.operands b.0 b.1;
        is = refl;
        typed = typed_empty;
        closes = (
          a.1,
          record {
            body = w1.body;
            after = e.0;
            is = w1.is ∙ ap (λ l. w1.body ++ l) e.1;
            typed = subst (λ m. Typed (record base { labels = m ∷ map label_of ls }) w1.body [] (listed l.result)) (sym (turn_label l.opening l.result a.1)) ty;
            follows = e.2;
          },
        );
      }
  comes (l ∷ ls) next end_mark code q w =
      let a = onward_ok (closes l.result l.endless l.operands) _ next q in
      let b = onward_ok (may_end l.opening l.result) _ next a.2 in
      let w1 : Completes base (given l.result ls) code = subst (λ n. Completes base n code) (sym (ok_is b.2)) w in
      record {
        types = listed l.result;
        body = [];
        rest = end_mark ∷ code;
        stands = closes_only l.result l.endless l.operands a.0 a.1;
        is = refl;
        typed = typed_empty;
        closes = (b.1, given_before ls l.result code w1);
      }
  comes (l ∷ ls) next i code q w = back_plain l ls next i code q w

  -- some code completes any open blocks
  stops : (c : Context) (ts us : List ValType) → Typed c (unreachable ∷ []) ts us
  stops c ts us =
      let last : Typed c [] (us ++ []) us = rw append-nil typed_empty in
      rw append-nil at (typed_plain {c = c} {i = unreachable} {takes = ts} {gives = us} [] refl (leaves ts us) refl last)

  pub some_rest : (ls : List Level) (r : Option ValType) → (code : List Instruction) × After base ls r code
  some_rest [] r = ([], refl)
  some_rest (l ∷ ls) r =
      let m = some_rest ls l.result in
      let s = some_stack l.endless l.operands in
      let c = by l.opening l.result m.0 m.1 in
      (unreachable ∷ c.0, record { types = s.0; body = unreachable ∷ []; rest = c.0; stands = s.1; is = refl; typed = stops _ _ _; closes = c.1 })
    where
      by : (o : Opening) (q : Option ValType) (more : List Instruction) → After base ls q more → (rest : List Instruction) × Closes (After base ls) (around base (l ∷ ls)) o q rest
      by FirstArm (Some t) more h = (else_mark ∷ (unreachable ∷ (end_mark ∷ more)), (refl, record { body = unreachable ∷ []; after = more; is = refl; typed = stops _ _ _; follows = h }))
      by FirstArm None more h = (end_mark ∷ more, (refl, h))
      by Straight q more h = (end_mark ∷ more, (refl, h))
      by Back q more h = (end_mark ∷ more, (refl, h))
