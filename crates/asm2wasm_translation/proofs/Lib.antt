mod Sessions
mod Exports
