use Rattle.std.proofs.Common.{◌||◌, Bool, sym, ap, ◌∙◌}
use Rattle.wat_lang.specs.Rows as spec
use Rattle.wat_read_names.specs.Fields.{field_of}
use Rattle.wat_read_rows.proofs.FieldByField.{defined_more, started_more, order_more}
use Rattle.wat_read_rows.proofs.orders.Orders.note.Goals as goal

pub returns : goal.returns
returns c = λ fs h.
    let old = c.args.self.now in
    let field = field_of c.args.field.now in
    record {
      defined = c.or_defines-self.ensures ∙ ap (λ (b : Bool). b || spec.defines field.kind) h.defined ∙ sym (defined_more fs field);
      started = c.or_starts-self.ensures ∙ ap (λ (b : Bool). b || spec.starts field.kind) h.started ∙ sym (started_more fs field);
      order = order_more old.defined old.started old.order _ c.is_late-late.result fs field h.defined h.started h.order c.is_late-late.ensures c.note.ensures;
      types = c.note-2.ensures _ fs h.types;
      functions = c.note-3.ensures _ fs h.functions;
      globals = c.note-4.ensures _ fs h.globals;
    }
