mod BothWays
mod Causes
mod Fronts
mod Inputs
mod Shows
mod Tables
