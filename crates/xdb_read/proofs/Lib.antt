-- The laws, by topic.
mod WayLaws
mod KeyLaws
mod FaultLaws
mod CursorLaws
mod OnWayLaws
