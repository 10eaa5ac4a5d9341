-- A function that stands open: a group more, a token more, and its end.
use Rattle.std.proofs.Common.{◌≡◌, ℕ, ◌⊎◌, inl, inr, Bool, true, false, ◌&&◌, List, [], ◌∷◌, ◌++◌, drop, Option, refl, sym, ap, ◌∙◌, subst, cond, append_assoc, append-nil}
use Rattle.std.specs.Prelude.{◌↔◌, IsTrue, flat_map}
use Rattle.wasm_lang.specs.Modules.{FunctionType}
use Rattle.wat_lang.specs.declared.parts.Space.{Space}
use Rattle.wat_lang.specs.declared.parts.FieldKind.{FieldKind}
use Rattle.wat_lang.specs.declared.parts.FieldKind.TheVariants as kinds
use Rattle.wat_lang.specs.Grammar.{Mark, an_instruction, Marked}
use Rattle.wat_lang.specs.Names.{Names, Field, names_at}
use Rattle.wat_lang.specs.Modules.{instructions_in, is_instruction}
use Rattle.wat_lang.specs.declared.parts.Space.TheVariants as spaces
use Rattle.wat_lang.specs.Rows.{Refusal, number_rows, use_rows, locals_of, local_spaces, field_rows, least}
use Rattle.wat_laws_kept.specs.Heads.{is_head, heads}
use Rattle.wat_laws_kept.specs.FieldByField.{with_part}
use Rattle.wat_laws_kept.specs.Groups.{labels_behind, begins_instruction, no_instruction}
use Rattle.wat_laws_kept.proofs.Groups.{numbers_joined, numbers_right, instructions_joined}
use Rattle.wat_laws_kept.proofs.Heads.{heads_joined, locals_of_heads, function_rows_of_heads, taken_of_heads}
use Rattle.wat_read_refusals.specs.Joined.{join}
use Rattle.wat_read_refusals.proofs.Joins.{least_append}
use Rattle.wat_read_rows.specs.Heads.{rows_by_kind}
use Rattle.wat_read_tokens.specs.Marks.{marks_of, only}
use Rattle.wat_read.specs.declared.functions.MadeCode.{MadeCode}
use Rattle.wat_read.specs.declared.functions.OpenFunction.{OpenFunction}
use Rattle.std.proofs.lemmas.List.{map-append}
use Rattle.wat_marks.specs.declared.marked.MarkedToken.{MarkedToken}
use Rattle.wat_marks.specs.Views.{marked_of}
use Rattle.wat_read.specs.Making.{HasFunction, HasMadeCode, IsJudged, IsWhole}
use Rattle.wat_read.specs.declared.judging.FieldRows.{FieldRows}
use Rattle.wat_read.specs.Judged.{HasRows}
use Rattle.wat_read.proofs.Judged.{one_more}

-- ---- registers

-- a register with more
pub more : (old new : Option Refusal) (xs ys : List Refusal) → old ≡ least xs → new ≡ join old (least ys) → new ≡ least (xs ++ ys)
more old new xs ys e h = h ∙ ap (λ r. join r (least ys)) e ∙ sym (least_append xs ys)

pub numbered : (old new : Option Refusal) (ns g : List Marked) → old ≡ least (number_rows ns) → new ≡ join old (least (number_rows g)) → new ≡ least (number_rows (ns ++ g))
numbered old new ns g e h = more old new (number_rows ns) (number_rows g) e h ∙ ap least (sym (numbers_joined ns g))

-- ---- a group more

pub code_joined : (names : Names → Space → Names) (done g : List Marked) → (done ≡ []) ⊎ (begins_instruction g ≡ true)
    → instructions_in names [] (done ++ g) ≡ instructions_in names [] done ++ instructions_in names (labels_behind [] done) g
code_joined names done g (inl e) =
    subst (λ (ms : List Marked). instructions_in names [] (ms ++ g) ≡ instructions_in names [] ms ++ instructions_in names (labels_behind [] ms) g) (sym e) refl
code_joined names done g (inr e) = instructions_joined names [] done g e

pub fit_both : (old now : Bool) (done g : List Marked) → IsTrue old ↔ (number_rows done ≡ []) → IsTrue now ↔ (number_rows g ≡ [])
    → IsTrue (old && now) ↔ (number_rows (done ++ g) ≡ [])
fit_both true now done g h k = (
  λ e. numbers_joined done g ∙ ap (λ rs. rs ++ number_rows g) (h.0 refl) ∙ k.0 e,
  λ e. k.1 (numbers_right done g e).1,
)
fit_both false now done g h k = (λ e. absurd cc, λ e. h.1 (numbers_right done g e).0)

-- ---- a token more

-- what follows a first token grows by one that is no instruction
abbrev none_then : Bool → Bool → Bool
none_then b rest = elim b [ true ↦ false | false ↦ rest ]

none_more : (ms : List Marked) (m : Marked) → no_instruction ms ≡ true → is_instruction m.mark ≡ false → no_instruction (ms ++ m ∷ []) ≡ true
none_more [] m h e = ap (λ b. none_then b true) e
none_more (k ∷ ms) m h e = by (none_more ms m) (is_instruction k.mark) h
  where
    by : (no_instruction ms ≡ true → is_instruction m.mark ≡ false → no_instruction (ms ++ m ∷ []) ≡ true) → (b : Bool)
        → none_then b (no_instruction ms) ≡ true → none_then b (no_instruction (ms ++ m ∷ [])) ≡ true
    by below true h = absurd cc
    by below false h = below h e

pub alone_more : (g : List Marked) (m : Marked) → no_instruction (drop 1 g) ≡ true → is_instruction m.mark ≡ false → no_instruction (drop 1 (g ++ m ∷ [])) ≡ true
alone_more [] m h e = refl
alone_more (n ∷ ns) m h e = none_more ns m h e

pub front_more : (g : List Marked) (m : Marked) → begins_instruction g ≡ true → (g ≡ [] → is_instruction m.mark ≡ true) → begins_instruction (g ++ m ∷ []) ≡ true
front_more [] m h e = e refl
front_more (n ∷ ns) m h e = h

pub parts_more : (parts done g : List Marked) (m : Marked) → parts ≡ done ++ g → parts ++ m ∷ [] ≡ done ++ (g ++ m ∷ [])
parts_more parts done g m e = ap (λ ms. ms ++ m ∷ []) e ∙ append_assoc done g (m ∷ [])

pub heads_more : (parts : List Marked) (m : Marked) → is_head m.mark ≡ true → heads (parts ++ m ∷ []) ≡ heads parts ++ m ∷ []
heads_more parts m e = heads_joined parts (m ∷ []) ∙ ap (λ (b : Bool). heads parts ++ cond b (m ∷ []) []) e

pub heads_same : (parts : List Marked) (m : Marked) → is_head m.mark ≡ false → heads (parts ++ m ∷ []) ≡ heads parts
heads_same parts m e = heads_joined parts (m ∷ []) ∙ ap (λ (b : Bool). heads parts ++ cond b (m ∷ []) []) e ∙ append-nil (heads parts)

-- ---- locals

at_kind : (names : Space → Names) (types : List FunctionType) (f : Field) → f.kind ≡ kinds.Func → locals_of names types f ≡ locals_of names types (record { kind = kinds.Func; at = 0; parts = f.parts })
at_kind names types f e = ap (λ (k : FieldKind). locals_of names types (record { kind = k; at = f.at; parts = f.parts })) e

-- the locals are those of the heads alone
pub by_heads : (names : Space → Names) (types : List FunctionType) (f g : Field) → f.kind ≡ kinds.Func → g.kind ≡ kinds.Func → g.parts ≡ heads f.parts → locals_of names types g ≡ locals_of names types f
by_heads names types f g ef eg e =
    at_kind names types g eg ∙ ap (λ (ms : List Marked). locals_of names types (record { kind = kinds.Func; at = 0; parts = ms })) e
    ∙ locals_of_heads names types kinds.Func 0 f.parts ∙ sym (at_kind names types f ef)

-- they stay behind a token that is no head
pub locals_stay : (names : Space → Names) (types : List FunctionType) (f : Field) (m : Marked) → f.kind ≡ kinds.Func → is_head m.mark ≡ false
    → locals_of names types (with_part f m) ≡ locals_of names types f
locals_stay names types f m e h =
    let headed : Field = record { kind = kinds.Func; at = 0; parts = heads f.parts } in
    sym (by_heads names types (with_part f m) headed e refl (sym (heads_same f.parts m h))) ∙ by_heads names types f headed e refl refl

-- ---- the end of a function

numbers_by : (m : Marked) (ms : List Marked) → number_rows (m ∷ ms) ≡ number_rows (m ∷ []) ++ number_rows ms
numbers_by m ms = numbers_joined (m ∷ []) ms

-- the heads of tokens whose numbers are in their ranges
pub heads_fit : (ms : List Marked) → number_rows ms ≡ [] → number_rows (heads ms) ≡ []
heads_fit [] e = refl
heads_fit (m ∷ ms) e = let parts = numbers_right (m ∷ []) ms e in by parts.0 (heads_fit ms parts.1) (is_head m.mark)
  where
    by : number_rows (m ∷ []) ≡ [] → number_rows (heads ms) ≡ [] → (b : Bool) → number_rows (cond b (m ∷ heads ms) (heads ms)) ≡ []
    by here below true = numbers_by m (heads ms) ∙ ap (λ rs. rs ++ number_rows (heads ms)) here ∙ below
    by here below false = below

-- the rows of a function that have nothing to do with its uses are those of its heads
pub kind_of_heads : (names : Space → Names) (types : List FunctionType) (f g : Field) → f.kind ≡ kinds.Func → g.kind ≡ kinds.Func → g.at ≡ f.at → g.parts ≡ heads f.parts
    → rows_by_kind names types g ≡ rows_by_kind names types f
kind_of_heads names types f g ef eg ea ep =
    let row : FieldKind → ℕ → List Marked → List Refusal = λ k at ms. rows_by_kind names types (record { kind = k; at = at; parts = ms }) in
    ap (λ k. row k g.at g.parts) eg ∙ ap (λ at. row kinds.Func at g.parts) ea ∙ ap (row kinds.Func f.at) ep
    ∙ function_rows_of_heads names types f.at f.parts ∙ ap (λ k. row k f.at f.parts) (sym ef)

pub locals_of_function : (f g : Field) → f.kind ≡ kinds.Func → g.kind ≡ kinds.Func → g.parts ≡ heads f.parts → local_spaces g ≡ local_spaces f
locals_of_function f g ef eg ep =
    let row : FieldKind → List Marked → List Refusal = λ k ms. local_spaces (record { kind = k; at = 0; parts = ms }) in
    ap (λ k. row k g.parts) eg ∙ ap (row kinds.Func) ep ∙ taken_of_heads spaces.Local refl f.parts ∙ ap (λ k. row k f.parts) (sym ef)

pub function_more : (names : Space → Names) (types : List FunctionType) (old new : FieldRows) (ks : List Marked) (fs : List Field) (f : Field)
    → HasRows names types old ks fs (use_rows (names_at names (locals_of names types f)) [] f.parts) → new.numbers ≡ old.numbers
    → new.locals ≡ join old.locals (least (local_spaces f)) → new.fields ≡ join old.fields (least (rows_by_kind names types f))
    → HasRows names types new ks (fs ++ f ∷ []) []
function_more names types old new ks fs f h n l k =
    let before : List Refusal = flat_map (field_rows names types) fs in
    let uses : List Refusal = use_rows (names_at names (locals_of names types f)) [] f.parts in
    record {
      numbers = n ∙ h.numbers;
      locals = more old.locals new.locals (flat_map local_spaces fs) (local_spaces f) h.locals l ∙ ap least (one_more local_spaces fs f);
      fields =
          more old.fields new.fields (before ++ uses) (rows_by_kind names types f) h.fields k
          ∙ ap least (append_assoc before uses (rows_by_kind names types f) ∙ one_more (field_rows names types) fs f
          ∙ sym (append-nil (flat_map (field_rows names types) (fs ++ f ∷ []))));
    }

-- ---- a part more

any_head : (b : Bool) (ms : List Marked) (m : Marked) → is_head m.mark ≡ b → heads (ms ++ m ∷ []) ≡ heads ms ++ only b m
any_head true ms m e = heads_more ms m e
any_head false ms m e = heads_same ms m e ∙ sym (append-nil (heads ms))

front_longer : (done g : List Marked) (m : Marked) → (done ≡ []) ⊎ (begins_instruction g ≡ true) → (done ≡ []) ⊎ (g ≡ [] → ⊥) → (done ≡ []) ⊎ (begins_instruction (g ++ m ∷ []) ≡ true)
front_longer done g m (inl e) some = inl e
front_longer done g m front (inl e) = inl e
front_longer done [] m (inr e) (inr none) = absurd (none refl)
front_longer done (n ∷ ns) m (inr e) (inr none) = inr e

pub longer : (g : List Marked) (m : Marked) → g ++ m ∷ [] ≡ [] → ⊥
longer [] m e = absurd cc
longer (n ∷ ns) m e = absurd cc

-- a token that is no head leaves the locals as they are, and before code nothing is made
made_stays : (names : Space → Names) (types : List FunctionType) (made : MadeCode) (f : Field) (m : Marked) (done : List Marked) → f.kind ≡ kinds.Func
    → (done ≡ []) ⊎ (is_head m.mark ≡ false) → HasMadeCode names (locals_of names types f) made done → HasMadeCode names (locals_of names types (with_part f m)) made done
made_stays names types made f m done k (inl e) h =
    subst (λ (ms : List Marked). HasMadeCode names (locals_of names types (with_part f m)) made ms) (sym e) (nothing (subst (HasMadeCode names (locals_of names types f) made) e h))
  where
    nothing : HasMadeCode names (locals_of names types f) made [] → HasMadeCode names (locals_of names types (with_part f m)) made []
    nothing n = record { labels = n.labels; fits = n.fits; code = n.code }
made_stays names types made f m done k (inr e) h = subst (λ (ns : Names). HasMadeCode names ns made done) (sym (locals_stay names types f m k e)) h

rows_stay : (names : Space → Names) (types : List FunctionType) (r : FieldRows) (before done : List Marked) (whole : List Field) (f : Field) (m : Marked) → f.kind ≡ kinds.Func
    → (done ≡ []) ⊎ (is_head m.mark ≡ false) → HasRows names types r (before ++ done) whole (use_rows (names_at names (locals_of names types f)) [] done)
    → HasRows names types r (before ++ done) whole (use_rows (names_at names (locals_of names types (with_part f m))) [] done)
rows_stay names types r before done whole f m k (inl e) h =
    let at : Names → List Marked → List Refusal = λ ns ms. use_rows (names_at names ns) [] ms in
    let none : at (locals_of names types f) done ≡ at (locals_of names types (with_part f m)) done = ap (at (locals_of names types f)) e ∙ sym (ap (at (locals_of names types (with_part f m))) e) in
    subst (HasRows names types r (before ++ done) whole) none h
rows_stay names types r before done whole f m k (inr e) h =
    subst (λ (ns : Names). HasRows names types r (before ++ done) whole (use_rows (names_at names ns) [] done)) (sym (locals_stay names types f m k e)) h

head_where : (in_code : Bool) (done : List Marked) (m : Marked) → (in_code ≡ false → done ≡ []) → (in_code ≡ true → is_head m.mark ≡ false) → (done ≡ []) ⊎ (is_head m.mark ≡ false)
head_where true done m before head = inr (head refl)
head_where false done m before head = inl (before refl)

pub part_more : (names : Space → Names) (types : List FunctionType) (old new : OpenFunction) (r : FieldRows) (f : Field) (m : Marked) (before : List Marked) (whole : List Field)
    → IsJudged names types old r f before whole → is_instruction m.mark ≡ false → (old.in_code ≡ true → is_head m.mark ≡ false)
    → marks_of new.heads.items ≡ marks_of old.heads.items ++ only (is_head m.mark) m → marks_of new.group.items ≡ marks_of old.group.items ++ m ∷ []
    → new.in_code ≡ old.in_code → new.locals ≡ old.locals → new.made ≡ old.made → IsJudged names types new r (with_part f m) before whole
part_more names types old new r f m before whole h part head eh eg ec el em =
    let fn = h.function in
    let where_is = head_where old.in_code h.done m fn.before head in
    let g = marks_of old.group.items in
    record {
      done = h.done;
      function = record {
        is_function = fn.is_function;
        parts = parts_more f.parts h.done g m fn.parts ∙ ap (λ ms. h.done ++ ms) (sym eg);
        heads = eh ∙ ap (λ ms. ms ++ only (is_head m.mark) m) fn.heads ∙ sym (any_head (is_head m.mark) f.parts m refl);
        alone = ap (λ ms. no_instruction (drop 1 ms)) eg ∙ alone_more g m fn.alone part;
        front = subst (λ ms. (h.done ≡ []) ⊎ (begins_instruction ms ≡ true)) (sym eg) (front_longer h.done g m fn.front h.begun);
        before = λ n. fn.before (sym ec ∙ n);
        locals = λ t. el ∙ fn.locals (sym ec ∙ t) ∙ sym (locals_stay names types f m fn.is_function (head (sym ec ∙ t)));
        made = subst (λ x. HasMadeCode names (locals_of names types (with_part f m)) x h.done) (sym em) (made_stays names types old.made f m h.done fn.is_function where_is fn.made);
      };
      begun = inr (subst (λ ms. ms ≡ [] → ⊥) (sym eg) (longer g m));
      rows = rows_stay names types r before h.done whole f m fn.is_function where_is h.rows;
    }

pub pushed : (old new : List MarkedToken) (t : MarkedToken) → new ≡ old ++ t ∷ [] → marks_of new ≡ marks_of old ++ marked_of t ∷ []
pushed old new t e = ap (λ (ts : List MarkedToken). marks_of ts) e ∙ map-append marked_of old (t ∷ [])

no_head : (m : Mark) → is_instruction m ≡ true → is_head m ≡ false
no_head (an_instruction form) e = refl
no_head k e = absurd cc

-- an instruction more, behind a group that is whole
pub instruction_more : (names : Space → Names) (types : List FunctionType) (old new : OpenFunction) (r : FieldRows) (f : Field) (m : Marked) (before : List Marked) (whole : List Field)
    → IsWhole names types old r f before whole → is_instruction m.mark ≡ true → new.heads ≡ old.heads → marks_of new.group.items ≡ m ∷ []
    → new.in_code ≡ old.in_code → new.locals ≡ old.locals → new.made ≡ old.made → IsJudged names types new r (with_part f m) before whole
instruction_more names types old new r f m before whole w is eh eg ec el em =
    let fn = w.function in
    let other : is_head m.mark ≡ false = no_head m.mark is in
    record {
      done = f.parts;
      function = record {
        is_function = fn.is_function;
        parts = ap (λ ms. f.parts ++ ms) (sym eg);
        heads = ap (λ x. marks_of x.items) eh ∙ fn.heads ∙ sym (heads_same f.parts m other);
        alone = ap (λ ms. no_instruction (drop 1 ms)) eg;
        front = inr (ap begins_instruction eg ∙ is);
        before = λ n. let both : true ≡ false = sym (ec ∙ w.in_code) ∙ n in absurd cc;
        locals = λ t. el ∙ fn.locals w.in_code ∙ sym (locals_stay names types f m fn.is_function other);
        made = subst (λ x. HasMadeCode names (locals_of names types (with_part f m)) x f.parts) (sym em) (made_stays names types old.made f m f.parts fn.is_function (inr other) fn.made);
      };
      begun = inr (subst (λ ms. ms ≡ [] → ⊥) (sym eg) (λ n. absurd cc));
      rows = rows_stay names types r before f.parts whole f m fn.is_function (inr other) w.rows;
    }

-- the same judged, where only whether code has begun and the locals are other
pub still : {names : Space → Names} {types : List FunctionType} {r : FieldRows} {f : Field} {before : List Marked} {whole : List Field} (old new : OpenFunction)
    → (h : IsJudged names types old r f before whole) → HasFunction names types new f h.done → new.group ≡ old.group → IsJudged names types new r f before whole
still old new h fn eg = record {
  done = h.done;
  function = fn;
  begun = subst (λ x. (h.done ≡ []) ⊎ (marks_of x.items ≡ [] → ⊥)) (sym eg) h.begun;
  rows = h.rows;
}
