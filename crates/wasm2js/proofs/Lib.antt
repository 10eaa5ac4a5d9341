mod Joined
mod Pages
mod Printed
mod Told
