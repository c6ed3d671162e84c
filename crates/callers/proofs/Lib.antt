mod ComputedWalks
mod TouchingHoles
