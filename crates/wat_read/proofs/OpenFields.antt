-- The field that stands open: a token more, its end, and the next one.
use Rattle.std.proofs.Common.{◌≡◌, ℕ, inl, Bool, true, false, List, [], ◌∷◌, ◌++◌, map, drop, refl, sym, ap, ◌∙◌, subst, append_assoc, append-nil}
use Rattle.std.specs.Prelude.{if◌then◌else◌}
use Rattle.wasm_lang.specs.Modules.{FunctionType}
use Rattle.wasm_tree.specs.Views as views
use Rattle.wat_lang.specs.declared.parts.Space.{Space}
use Rattle.wat_lang.specs.declared.parts.FieldKind.{FieldKind}
use Rattle.wat_lang.specs.declared.parts.FieldKind.TheVariants as kinds
use Rattle.wat_lang.specs.Grammar.{Mark, a_field, an_instruction, Marked}
use Rattle.wat_lang.specs.Names.{Names, Field, fields_of}
use Rattle.wat_lang.specs.Modules.{is_instruction}
use Rattle.wat_lang.specs.Rows.{number_rows, least}
use Rattle.wat_laws_kept.specs.Heads.{heads, code_after, in_code}
use Rattle.wat_laws_kept.specs.FieldByField.{is_field, Stands, begun_at, with_part}
use Rattle.wat_laws_kept.specs.Groups.{no_instruction}
use Rattle.wat_laws_kept.proofs.Heads.{in_code_more}
use Rattle.wat_laws_kept.proofs.FieldByField.{fields_standing, no_fields_in, no_field_more}
use Rattle.wat_laws_kept.proofs.Groups.{numbers_joined, numbers_right}
use Rattle.wat_read_tokens.specs.Marks.{marks_of}
use Rattle.wat_read_refusals.specs.Joined.{join}
use Rattle.wat_read_outline.specs.declared.outline.Begun.{Begun}
use Rattle.wat_read.specs.declared.judging.FieldRows.{FieldRows}
use Rattle.wat_read_fields.specs.declared.lists.Lists.{Lists}
use Rattle.wat_read.specs.declared.functions.OpenFunction.{OpenFunction}
use Rattle.wat_read.specs.declared.making.Making.{Making}
use Rattle.wat_read_fields.specs.Lists.{HasLists}
use Rattle.wat_read.specs.Judged.{HasRows}
use Rattle.wat_read.specs.Making.{HasFunction, IsJudged, IsEmpty, HasNone, HasParts, HasCode, HasClosed, by_kind}
use Rattle.wat_read.proofs.OpenFunctions.{numbered}

whole_marks : {ks : List Marked} {fs : List Field} {f : Field} (s : Stands ks fs f) → (s.before ++ s.first ∷ []) ++ f.parts ≡ ks
whole_marks {f = f} s = append_assoc s.before (s.first ∷ []) f.parts ∙ sym s.parts

both_fit : {ks : List Marked} {fs : List Field} {f : Field} (s : Stands ks fs f) → number_rows ks ≡ [] → (number_rows s.before ≡ []) × (number_rows f.parts ≡ [])
both_fit {f = f} s e =
    let parts = numbers_right s.before (s.first ∷ f.parts) (sym (ap number_rows s.parts) ∙ e) in
    (parts.0, (numbers_right (s.first ∷ []) f.parts parts.1).1)

-- the keyword of a field is no number
no_number : (m : Marked) (kind : FieldKind) → m.mark ≡ a_field kind → number_rows (m ∷ []) ≡ []
no_number m kind e = ap (λ (k : Mark). number_rows (record { mark = k; token = m.token } ∷ [])) e

numbers_before : (ks : List Marked) (m : Marked) (kind : FieldKind) → m.mark ≡ a_field kind → number_rows (ks ++ m ∷ []) ≡ number_rows ks
numbers_before ks m kind e = numbers_joined ks (m ∷ []) ∙ ap (λ rs. number_rows ks ++ rs) (no_number m kind e) ∙ append-nil (number_rows ks)

pub same_field : (f : Field) (kind : FieldKind) (at : ℕ) (parts : List Marked) → kind ≡ f.kind → at ≡ f.at → parts ≡ f.parts
    → (let g : Field = record { kind = kind; at = at; parts = parts } in g) ≡ f
same_field f kind at parts ek ea ep =
    let make : FieldKind → ℕ → List Marked → Field = λ k a ms. record { kind = k; at = a; parts = ms } in
    ap (λ k. make k at parts) ek ∙ ap (λ a. make f.kind a parts) ea ∙ ap (make f.kind f.at) ep

abbrev begun_there : (ks : List Marked) (m : Marked) (kind : FieldKind) → m.mark ≡ a_field kind → Stands (ks ++ m ∷ []) (fields_of ks) (begun_at kind m)
begun_there ks m kind e = record { before = ks; first = m; is_first = e; there = refl; parts = refl; inside = refl; whole = refl }

code_by : (b : Bool) (k : Mark) → is_field k ≡ false → (if is_instruction k then true else b) ≡ code_after b k
code_by b (a_field kind) e = absurd cc
code_by b (an_instruction form) e = refl
code_by b k e = refl

-- ---- its end

pub field_closed : (names : Space → Names) (types : List FunctionType) (new : Making) (ks : List Marked) (whole : List Field) (f g : Field) (s : Stands ks whole f) → g ≡ f
    → HasRows names types new.rows ((s.before ++ s.first ∷ []) ++ g.parts) (whole ++ g ∷ []) []
    → (number_rows s.before ≡ [] → number_rows g.parts ≡ [] → HasLists names types new.lists (whole ++ g ∷ []))
    → IsEmpty new.function → new.parts.items ≡ [] → HasClosed names types new ks
field_closed names types new ks whole f g s same rows lists empty parts =
    let fields : fields_of ks ≡ whole ++ f ∷ [] = fields_standing s in
    let begun : List Marked = s.before ++ s.first ∷ [] in
    let of_f = subst (λ (h : Field). HasRows names types new.rows (begun ++ h.parts) (whole ++ h ∷ []) []) same rows in
    record {
      rows =
          subst (λ (ms : List Marked). HasRows names types new.rows ms (fields_of ks) []) (whole_marks s)
          (subst (λ (fs : List Field). HasRows names types new.rows (begun ++ f.parts) fs []) (sym fields) of_f);
      lists = λ e.
          let fit = both_fit s e in
          subst (HasLists names types new.lists) (ap (λ (h : Field). whole ++ h ∷ []) same ∙ sym fields)
          (lists fit.0 (ap (λ (h : Field). number_rows h.parts) same ∙ fit.1));
      function = empty;
      parts = parts;
    }

pub none_closed : (names : Space → Names) (types : List FunctionType) (old new : Making) (ks ms : List Marked) → HasNone names types old ks → ms ≡ ks
    → new.rows.numbers ≡ join old.rows.numbers (least (number_rows ms)) → new.rows.locals ≡ old.rows.locals → new.rows.fields ≡ old.rows.fields
    → new.lists ≡ old.lists → new.function ≡ old.function → new.parts.items ≡ [] → HasClosed names types new ks
none_closed names types old new ks ms h same n l f el ef p =
    let none : fields_of ks ≡ [] = no_fields_in ks h.none in
    let numbers = numbered old.rows.numbers new.rows.numbers [] ks h.rows.numbers (n ∙ ap (λ (xs : List Marked). join old.rows.numbers (least (number_rows xs))) same) in
    record {
      rows = subst (λ (fs : List Field). HasRows names types new.rows ks fs []) (sym none)
          (record { numbers = numbers; locals = l ∙ h.rows.locals; fields = f ∙ h.rows.fields });
      lists = λ e. subst (λ (fs : List Field). HasLists names types new.lists fs) (sym none) (subst (λ (x : Lists). HasLists names types x []) (sym el) h.lists);
      function = subst IsEmpty (sym ef) h.function;
      parts = p;
    }

-- ---- a part more

-- the same fields are whole, and stand before the same keyword
abbrev longer_there : {ks : List Marked} {fs : List Field} {f : Field} (m : Marked) → Stands ks fs f → is_field m.mark ≡ false → Stands (ks ++ m ∷ []) fs (with_part f m)
longer_there {f = f} m s e = record {
  before = s.before;
  first = s.first;
  is_first = s.is_first;
  there = s.there;
  parts = ap (λ ms. ms ++ m ∷ []) s.parts ∙ append_assoc s.before (s.first ∷ f.parts) (m ∷ []);
  inside = no_field_more f.parts m s.inside e;
  whole = s.whole;
}

pub none_longer : (names : Space → Names) (types : List FunctionType) (old new : Making) (ks : List Marked) (m : Marked) → HasNone names types old ks → is_field m.mark ≡ false
    → marks_of new.parts.items ≡ marks_of old.parts.items ++ m ∷ [] → new.rows ≡ old.rows → new.lists ≡ old.lists → new.function ≡ old.function → HasNone names types new (ks ++ m ∷ [])
none_longer names types old new ks m h e put er el ef = record {
  none = no_field_more ks m h.none e;
  parts = put ∙ ap (λ (ms : List Marked). ms ++ m ∷ []) h.parts;
  rows = subst (λ (r : FieldRows). HasRows names types r [] [] []) (sym er) h.rows;
  lists = subst (λ (l : Lists). HasLists names types l []) (sym el) h.lists;
  function = subst IsEmpty (sym ef) h.function;
}

pub parts_longer : (names : Space → Names) (types : List FunctionType) (old new : Making) (b : Begun) (ks : List Marked) (m : Marked) → HasParts names types old b ks → is_field m.mark ≡ false
    → marks_of new.parts.items ≡ marks_of old.parts.items ++ m ∷ [] → new.rows ≡ old.rows → new.lists ≡ old.lists → new.function ≡ old.function → HasParts names types new b (ks ++ m ∷ [])
parts_longer names types old new b ks m h e put er el ef = record {
  whole = h.whole;
  field = with_part h.field m;
  stands = longer_there m h.stands e;
  kind = h.kind;
  at = h.at;
  parts = put ∙ ap (λ (ms : List Marked). ms ++ m ∷ []) h.parts;
  rows = subst (λ (r : FieldRows). HasRows names types r (h.stands.before ++ h.stands.first ∷ []) h.whole []) (sym er) h.rows;
  lists = λ n. subst (λ (l : Lists). HasLists names types l h.whole) (sym el) (h.lists n);
  function = subst IsEmpty (sym ef) h.function;
}

pub code_longer : (names : Space → Names) (types : List FunctionType) (old new : Making) (b : Begun) (ks : List Marked) (m : Marked) (h : HasCode names types old b ks) → is_field m.mark ≡ false
    → IsJudged names types new.function new.rows (with_part h.field m) (h.stands.before ++ h.stands.first ∷ []) h.whole
    → new.function.in_code ≡ (if is_instruction m.mark then true else old.function.in_code) → new.lists ≡ old.lists → new.parts ≡ old.parts → HasCode names types new b (ks ++ m ∷ [])
code_longer names types old new b ks m h e judged code el ep = record {
  whole = h.whole;
  field = with_part h.field m;
  stands = longer_there m h.stands e;
  at = h.at;
  judged = judged;
  code = code ∙ code_by old.function.in_code m.mark e ∙ ap (λ (x : Bool). code_after x m.mark) h.code ∙ sym (in_code_more false ks m);
  lists = λ n. subst (λ (l : Lists). HasLists names types l h.whole) (sym el) (h.lists n);
  parts = ap (λ x. x.items) ep ∙ h.parts;
}

-- ---- the next one

parts_opened : (names : Space → Names) (types : List FunctionType) (n : Making) (b : Begun) (ks : List Marked) (k : Marked) → HasClosed names types n ks → k.mark ≡ a_field b.kind → k.token.at ≡ b.at
    → HasParts names types n b (ks ++ k ∷ [])
parts_opened names types n b ks k h is there = record {
  whole = fields_of ks;
  field = begun_at b.kind k;
  stands = begun_there ks k b.kind is;
  kind = refl;
  at = there;
  parts = ap marks_of h.parts;
  rows = record { numbers = h.rows.numbers ∙ ap least (sym (numbers_before ks k b.kind is)); locals = h.rows.locals; fields = h.rows.fields };
  lists = h.lists;
  function = h.function;
}

function_opened : (names : Space → Names) (types : List FunctionType) (o : OpenFunction) (f : Field) → IsEmpty o → f.kind ≡ kinds.Func → f.parts ≡ [] → HasFunction names types o f []
function_opened names types o f h kind none = record {
  is_function = kind;
  parts = none ∙ sym (ap marks_of h.group);
  heads = ap marks_of h.heads ∙ sym (ap heads none);
  alone = ap (λ ts. no_instruction (drop 1 (marks_of ts))) h.group;
  front = inl refl;
  before = λ e. refl;
  locals = λ e. let both : true ≡ false = sym e ∙ h.in_code in absurd cc;
  made = record { labels = h.labels; fits = (λ e. refl, λ e. h.fits); code = λ e. ap (map views.instr_of) h.code };
}

code_opened : (names : Space → Names) (types : List FunctionType) (n : Making) (b : Begun) (ks : List Marked) (k : Marked) → b.kind ≡ kinds.Func → HasClosed names types n ks → k.mark ≡ a_field b.kind → k.token.at ≡ b.at
    → HasCode names types n b (ks ++ k ∷ [])
code_opened names types n b ks k func h is there =
    let begun : List Marked = ks ++ k ∷ [] in
    record {
      whole = fields_of ks;
      field = begun_at b.kind k;
      stands = begun_there ks k b.kind is;
      at = there;
      judged = record {
        done = [];
        function = function_opened names types n.function (begun_at b.kind k) h.function func refl;
        begun = inl refl;
        rows = record {
          numbers = h.rows.numbers ∙ ap least (sym (ap number_rows (append-nil begun) ∙ numbers_before ks k b.kind is));
          locals = h.rows.locals;
          fields = h.rows.fields;
        };
      };
      code = h.function.in_code ∙ sym (in_code_more false ks k ∙ ap (code_after (in_code false ks)) is);
      lists = h.lists;
      parts = h.parts;
    }

pub field_opened : (names : Space → Names) (types : List FunctionType) (n : Making) (b : Begun) (ks : List Marked) (k : Marked) → HasClosed names types n ks → k.mark ≡ a_field b.kind → k.token.at ≡ b.at
    → by_kind names types n b (ks ++ k ∷ []) b.kind
field_opened names types n b ks k h is there = by b.kind refl
  where
    by : (kind : FieldKind) → b.kind ≡ kind → by_kind names types n b (ks ++ k ∷ []) kind
    by kinds.Func e = code_opened names types n b ks k e h is there
    by kind e = parts_opened names types n b ks k h is there

-- ---- by the kind of the field that stands open

pub parts_by_kind : (names : Space → Names) (types : List FunctionType) (n : Making) (b : Begun) (ks : List Marked) → (b.kind ≡ kinds.Func → ⊥) → by_kind names types n b ks b.kind → HasParts names types n b ks
parts_by_kind names types n b ks other h = by b.kind other h
  where
    by : (kind : FieldKind) → (kind ≡ kinds.Func → ⊥) → by_kind names types n b ks kind → HasParts names types n b ks
    by kinds.Func other h = absurd (other refl)
    by kind other h = h

pub by_other_kind : (names : Space → Names) (types : List FunctionType) (n : Making) (b : Begun) (ks : List Marked) → (b.kind ≡ kinds.Func → ⊥) → HasParts names types n b ks → by_kind names types n b ks b.kind
by_other_kind names types n b ks other h = by b.kind other
  where
    by : (kind : FieldKind) → (kind ≡ kinds.Func → ⊥) → by_kind names types n b ks kind
    by kinds.Func other = absurd (other refl)
    by kind other = h
