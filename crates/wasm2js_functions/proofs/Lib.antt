pub mod Bodies
pub mod Firsts
pub mod Lists
pub mod OwnFunctions
pub mod Printed
pub mod Sent
pub mod Viewed
