mod LoweredMoves
mod LoweredRows
mod LoweredCuts
mod LoweredTurns
mod StraightWays
