-- Promise 3 and its companions, proved.
pub mod Promise
pub mod StatesAgree
pub mod Unburied
pub mod StagesInOrder
pub mod Sweeping
pub mod PremisesMet
pub mod RunsComputed
pub mod RoomAgain
pub mod CleaningUnseen
pub mod CleanedAfterCut
pub mod Bare
