-- What the code's values of lines say.
use Rattle.std.specs.Prelude.{ℕ, List, map}
use Rattle.std.specs.Borrow.{Bor}
use Rattle.session_lang.specs.Views.{global_of, write_of, call_of, reply_line_of}
use Rattle.script_read.specs.declared.items.Item.{Item as LineItem}
use Rattle.script_read.specs.declared.items.Item.TheVariants as items
use Rattle.script_lang.specs.Items.{Item, a_global, a_write, a_call, a_reply}

abbrev pub item_view : LineItem → Item
item_view (items.Global g) = a_global (global_of g)
item_view (items.Write w) = a_write (write_of w)
item_view (items.Call c) = a_call (call_of c)
item_view (items.Reply r) = a_reply (reply_line_of r)

abbrev pub texts_of : List (Bor (List ℕ)) → List (List ℕ)
texts_of ws = map (λ w. w.now) ws
