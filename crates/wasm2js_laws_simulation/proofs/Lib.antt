pub mod CallsArguments
pub mod CallsReturned
pub mod CallsCalling
pub mod CallsCallees
pub mod CallsGuards
pub mod CallsStubs
pub mod CallsCells
pub mod CallsEntries
pub mod FramesHelped
pub mod FramesEntered
pub mod FramesLeft
pub mod FramesClosed
pub mod FramesFramed
pub mod FramesDepths
pub mod ImportsAnswering
pub mod ImportsWrapped
pub mod ImportsNarrow
pub mod ImportsFollowing
pub mod HelpingNamed
pub mod HelpingUsual
pub mod HelpingCalled
pub mod HelpingStanding
pub mod HostEvents
pub mod HostExports
pub mod HostArguments
pub mod HostNames
pub mod HostPace
pub mod HostKept
pub mod HostHigh
pub mod HostCalls
pub mod FollowedMoves
pub mod FollowedBodies
pub mod FollowedHosts
pub mod StartInit
pub mod SegmentsLying
pub mod SegmentsPut
pub mod SegmentsZeros
pub mod SegmentsStored
pub mod InstancesMemory
pub mod InstancesInstance
pub mod InstancesGlobals
pub mod InstancesHeld
pub mod StartHigh
pub mod SessionsWhole
mod HelpersCalled
mod HelpersWhole
mod WholeWhole
mod BoundedWhole
