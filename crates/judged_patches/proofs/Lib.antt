mod Chains
mod Starting
