use Rattle.std.proofs.Common.{◌+◌, ap, length, arith}
use Rattle.wasm_link_bind.proofs.Finals.{are_bindings}
use Rattle.wasm_link_bind.proofs.bindings.Bindings.new.Goals as goal

pub invariant_of-result : goal.invariant_of-result
invariant_of-result c =
    are_bindings (record { first = c.in_ok-first.first; second = c.in_ok-second.second }) c.in_ok-first_bound.first_bound.items c.in_ok-second_bound.second_bound.items c.in_ok-next.next.items
    c.as_slice.result.now c.as_slice-2.result.now c.as_slice-5.result.now c.in_ok-ends.ends.items (length c.as_slice-3.result.now + length c.as_slice-4.result.now)
    c.in_ok-first_bound.ensures c.in_ok-second_bound.ensures c.as_slice.ensures.value c.as_slice-2.ensures.value c.in_ok-next.ensures c.as_slice-5.ensures.value
    (omega (arith, ap length c.as_slice.ensures.value, ap length c.as_slice-2.ensures.value, ap length c.as_slice-3.ensures.value, ap length c.as_slice-4.ensures.value)) c.in_ok-ends.ensures
