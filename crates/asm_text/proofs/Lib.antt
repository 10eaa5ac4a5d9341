mod Answered
mod UpTo
