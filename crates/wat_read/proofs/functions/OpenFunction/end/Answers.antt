use Rattle.std.proofs.Common.{◌≡◌, List, [], ◌∷◌, ◌++◌, refl, sym, ap, ◌∙◌, subst}
use Rattle.std.specs.Prelude.{◌↔◌, IsTrue}
use Rattle.wasm_lang.specs.Instructions.{Instruction, end_mark}
use Rattle.wat_lang.specs.Names as names
use Rattle.wat_lang.specs.Rows.{number_rows, locals_of, least}
use Rattle.wat_marks.specs.declared.marked.MarkedToken.{MarkedToken}
use Rattle.wat_read_tokens.specs.Marks.{marks_of}
use Rattle.wat_read_names.specs.Fields.{field_of}
use Rattle.wat_read_refusals.specs.Joined.{join}
use Rattle.wat_read.specs.declared.functions.MadeCode.{MadeCode}
use Rattle.wat_read_fields.specs.Contexts.{module_names, module_types}
use Rattle.wat_read.specs.Making.{HasMadeCode}
use Rattle.wat_read.proofs.OpenFunctions.{still, kind_of_heads, locals_of_function, function_more}
use Rattle.wat_read.proofs.functions.OpenFunction.end.Goals as goal

pub returns-clause-rows : goal.returns-clause-rows
returns-clause-rows c = λ f before whole h at.
    let names_of = module_names c.args.context in
    let types = module_types c.args.context in
    let b = c.in_ok-begin_code.ensures in
    let w = c.in_ok-end_group.ensures.whole f before whole (still c.args.self.now c.begin_code.new.self h (b.function f h.done h.function) b.group) b.in_code in
    let g : names.Field = field_of c.field.result in
    let kind = ap (λ (x : names.Field). x.kind) c.field.ensures ∙ c.requires in
    let there = ap (λ (x : names.Field). x.at) c.field.ensures ∙ sym at in
    let parts = ap (λ (x : names.Field). x.parts) c.field.ensures ∙ w.function.heads in
    let noted = c.in_ok-note_kind.ensures in
    function_more names_of types c.end_group.new.rows c.note_kind.new.self (before ++ f.parts) whole f w.rows noted.numbers
    (noted.locals ∙ ap (λ rs. join c.end_group.new.rows.locals (least rs)) (locals_of_function f g w.function.is_function kind parts))
    (noted.fields ∙ ap (λ rs. join c.end_group.new.rows.fields (least rs)) (kind_of_heads names_of types f g w.function.is_function kind there parts))

pub returns-clause-lists : goal.returns-clause-lists
returns-clause-lists c = λ f before whole h hl.
    let b = c.in_ok-begin_code.ensures in
    let w = c.in_ok-end_group.ensures.whole f before whole (still c.args.self.now c.begin_code.new.self h (b.function f h.done h.function) b.group) b.in_code in
    let made = subst (λ x. HasMadeCode (module_names c.args.context) (locals_of (module_names c.args.context) (module_types c.args.context) f) x f.parts) (sym c.replace-made.ensures.value) w.function.made in
    let iw = c.in_ok-whole.ensures in
    c.in_ok-list_function.ensures whole f hl w.function.is_function (ap (λ (ts : List MarkedToken). marks_of ts) c.as_slice.ensures.value ∙ w.function.heads) (record {
      fits = subst (λ x. IsTrue x ↔ (number_rows f.parts ≡ [])) (sym iw.fits) made.fits;
      code = λ t. iw.code ∙ ap (λ (is : List Instruction). is ++ end_mark ∷ []) (made.code (sym iw.fits ∙ t));
    })

pub returns-clause-empty : goal.returns-clause-empty
returns-clause-empty c = λ f before whole h.
    let b = c.in_ok-begin_code.ensures in
    let w = c.in_ok-end_group.ensures.whole f before whole (still c.args.self.now c.begin_code.new.self h (b.function f h.done h.function) b.group) b.in_code in
    record { heads = c.clear.ensures.items; group = w.group; in_code = refl; labels = ap (λ (x : MadeCode). x.labels) c.replace-made.ensures.after ∙ c.new.ensures.labels; code = ap (λ (x : MadeCode). x.code.items) c.replace-made.ensures.after ∙ c.new.ensures.code; fits = ap (λ (x : MadeCode). x.fits) c.replace-made.ensures.after ∙ c.new.ensures.fits }
