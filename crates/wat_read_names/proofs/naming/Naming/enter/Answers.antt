use Rattle.std.proofs.Common.{[], ◌∷◌, ◌++◌, ap, ◌∙◌}
use Rattle.std.proofs.lemmas.Result.{on_ok_weaker}
use Rattle.wat_lang.specs.declared.parts.Space.TheVariants as spaces
use Rattle.wat_lang.specs.Names.{same_space}
use Rattle.wat_read_names.specs.Fields.{field_of}
use Rattle.wat_read_names.specs.Bound.{HasNamed}
use Rattle.wat_read_names.proofs.Passing.{others}
use Rattle.wat_read_names.proofs.naming.Naming.enter.Goals as goal

pub returns-in-Func : goal.returns-in-Func
returns-in-Func c = λ fs h.
    let f = field_of c.args.field.now in
    let o = others c.args.self.now (λ s. same_space s spaces.Func) fs f (λ s. c.requires s ∙ ap (same_space s) c.in-Func.is) h in
    on_ok_weaker {Q = HasNamed (record c.args.self.now { functions = c.add.new.self }) (fs ++ f ∷ [])} _ (λ b. record { types = o.types; functions = b; tables = o.tables; memories = o.memories; globals = o.globals; elements = o.elements; segments = o.segments; signatures = o.signatures }) (c.add.ensures fs h.functions)

pub returns-in-Table : goal.returns-in-Table
returns-in-Table c = λ fs h.
    let f = field_of c.args.field.now in
    let o = others c.args.self.now (λ s. same_space s spaces.Table) fs f (λ s. c.requires s ∙ ap (same_space s) c.in-Table.is) h in
    on_ok_weaker {Q = HasNamed (record c.args.self.now { tables = c.add-in-Table.new.self }) (fs ++ f ∷ [])} _ (λ b. record { types = o.types; functions = o.functions; tables = b; memories = o.memories; globals = o.globals; elements = o.elements; segments = o.segments; signatures = o.signatures }) (c.add-in-Table.ensures fs h.tables)

pub returns-in-Memory : goal.returns-in-Memory
returns-in-Memory c = λ fs h.
    let f = field_of c.args.field.now in
    let o = others c.args.self.now (λ s. same_space s spaces.Memory) fs f (λ s. c.requires s ∙ ap (same_space s) c.in-Memory.is) h in
    on_ok_weaker {Q = HasNamed (record c.args.self.now { memories = c.add-in-Memory.new.self }) (fs ++ f ∷ [])} _ (λ b. record { types = o.types; functions = o.functions; tables = o.tables; memories = b; globals = o.globals; elements = o.elements; segments = o.segments; signatures = o.signatures }) (c.add-in-Memory.ensures fs h.memories)

pub returns-in-Global : goal.returns-in-Global
returns-in-Global c = λ fs h.
    let f = field_of c.args.field.now in
    let o = others c.args.self.now (λ s. same_space s spaces.Global) fs f (λ s. c.requires s ∙ ap (same_space s) c.in-Global.is) h in
    on_ok_weaker {Q = HasNamed (record c.args.self.now { globals = c.add-in-Global.new.self }) (fs ++ f ∷ [])} _ (λ b. record { types = o.types; functions = o.functions; tables = o.tables; memories = o.memories; globals = b; elements = o.elements; segments = o.segments; signatures = o.signatures }) (c.add-in-Global.ensures fs h.globals)

pub returns-in-Elem : goal.returns-in-Elem
returns-in-Elem c = λ fs h.
    let f = field_of c.args.field.now in
    let o = others c.args.self.now (λ s. same_space s spaces.Elem) fs f (λ s. c.requires s ∙ ap (same_space s) c.in-Elem.is) h in
    on_ok_weaker {Q = HasNamed (record c.args.self.now { elements = c.add-in-Elem.new.self }) (fs ++ f ∷ [])} _ (λ b. record { types = o.types; functions = o.functions; tables = o.tables; memories = o.memories; globals = o.globals; elements = b; segments = o.segments; signatures = o.signatures }) (c.add-in-Elem.ensures fs h.elements)

pub returns-in-Data : goal.returns-in-Data
returns-in-Data c = λ fs h.
    let f = field_of c.args.field.now in
    let o = others c.args.self.now (λ s. same_space s spaces.Data) fs f (λ s. c.requires s ∙ ap (same_space s) c.in-Data.is) h in
    on_ok_weaker {Q = HasNamed (record c.args.self.now { segments = c.add-in-Data.new.self }) (fs ++ f ∷ [])} _ (λ b. record { types = o.types; functions = o.functions; tables = o.tables; memories = o.memories; globals = o.globals; elements = o.elements; segments = b; signatures = o.signatures }) (c.add-in-Data.ensures fs h.segments)

pub returns-in-Local : goal.returns-in-Local
returns-in-Local c = λ fs h.
    let o = others c.args.self.now (λ s. same_space s spaces.Local) fs (field_of c.args.field.now) (λ s. c.requires s ∙ ap (same_space s) c.in-Local.is) h in
    record { types = o.types; functions = o.functions; tables = o.tables; memories = o.memories; globals = o.globals; elements = o.elements; segments = o.segments; signatures = o.signatures }

pub returns-in-Label : goal.returns-in-Label
returns-in-Label c = λ fs h.
    let o = others c.args.self.now (λ s. same_space s spaces.Label) fs (field_of c.args.field.now) (λ s. c.requires s ∙ ap (same_space s) c.in-Label.is) h in
    record { types = o.types; functions = o.functions; tables = o.tables; memories = o.memories; globals = o.globals; elements = o.elements; segments = o.segments; signatures = o.signatures }
