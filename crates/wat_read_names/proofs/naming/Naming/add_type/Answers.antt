use Rattle.std.proofs.Common.{[], ◌∷◌, ◌++◌}
use Rattle.std.proofs.lemmas.Result.{on_ok_weaker}
use Rattle.wat_lang.specs.declared.parts.Space.TheVariants as spaces
use Rattle.wat_lang.specs.Names.{same_space}
use Rattle.wat_read_names.specs.Fields.{field_of}
use Rattle.wat_read_names.specs.Bound.{HasNamed}
use Rattle.wat_read_names.proofs.Passing.{others, types_more}
use Rattle.wat_read_names.proofs.naming.Naming.add_type.Goals as goal

pub returns : goal.returns
returns c = λ fs h.
    let f = field_of c.args.field.now in
    let o = others c.args.self.now (λ s. same_space s spaces.Type) fs f c.requires h in
    on_ok_weaker {Q = HasNamed (record c.args.self.now { types = c.add.new.self; signatures = c.push_signature.new.types }) (fs ++ f ∷ [])} _ (λ e. record {
      types = c.in_ok-add.ensures fs h.types;
      functions = o.functions;
      tables = o.tables;
      memories = o.memories;
      globals = o.globals;
      elements = o.elements;
      segments = o.segments;
      signatures = types_more fs f _ _ (c.requires spaces.Type) h.signatures e;
    }) c.push_signature.ensures
