pub mod LostCarry
