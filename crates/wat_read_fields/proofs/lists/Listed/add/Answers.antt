use Rattle.std.proofs.Common.{[], ◌∷◌, ◌++◌}
use Rattle.std.proofs.lemmas.Result.{on_ok_weaker}
use Rattle.wat_lang.specs.declared.parts.Space.TheVariants as spaces
use Rattle.wat_lang.specs.Modules as spec
use Rattle.wat_read_names.specs.Bound.{space_names}
use Rattle.wat_read_names.specs.Fields.{field_of}
use Rattle.wat_read_fields.specs.Fit.{defines_in}
use Rattle.wat_read_fields.specs.Lists.{HasListed}
use Rattle.wat_read_fields.proofs.OneMore.{added, start_added}
use Rattle.wat_read_fields.proofs.lists.Listed.add.Goals as goal

pub returns : goal.returns
returns c = λ fs h.
    let names_of = space_names c.args.context.spaces.now in
    let g = field_of c.args.field.now in
    on_ok_weaker {Q = HasListed names_of (record { exports = c.push_export.new.list; start = c.start_or-self.result; elements = c.push_element.new.list; segments = c.push_segment.new.list }) (fs ++ g ∷ [])} _ (λ e. record {
      exports = added (λ f. spec.is_export f.kind) (spec.export_of names_of) fs g _ _ h.exports c.in_ok-push_export.ensures;
      start = start_added (λ f. spec.is_start f.kind) (spec.first_used names_of spaces.Func) fs g c.args.self.now.start c.start_or-self.result h.start c.start_or-self.ensures;
      elements = added (defines_in spaces.Elem) (spec.element_of names_of) fs g _ _ h.elements c.in_ok-push_element.ensures;
      segments = added (defines_in spaces.Data) (spec.segment_of names_of) fs g _ _ h.segments e;
    }) c.push_segment.ensures
