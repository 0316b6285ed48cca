mod Machines
mod RegisterRuns
mod ListRuns
